use Rattle.std.proofs.Common.{sym, length}
use Rattle.cs_table.proofs.Results.{moved_ok}
use Rattle.cs_crontab.specs.Reading.{field_of}
use Rattle.cs_crontab.proofs.Fields.{field_within}
use Rattle.cs_crontab.proofs.field.next_field.Goals as goal

pub returns-clause-within : goal.returns-clause-within
returns-clause-within c =
    let word = c.word.result.0.now in
    let field = c.in_ok-field.field in
    field_within c.args.part word field (moved_ok (length c.word.result.1.now) (field_of c.args.part word) field (sym c.in_ok-field.ensures))
