use Rattle.std.proofs.Common.{Err, length, ap, sym, ◌∙◌}
use Rattle.std.proofs.lemmas.Bool.{lt-ltb}
use Rattle.std.proofs.lemmas.List.{take_rest}
use Rattle.cs_table.specs.declared.limits.TheConstants.{MAX_LINE}
use Rattle.cs_table.specs.declared.fault.Wrong.{Wrong}
use Rattle.cs_table.specs.Wrong.{whole}
use Rattle.cs_anacrontab.specs.declared.fault.JobFault.{JobFault}
use Rattle.cs_anacrontab.specs.declared.fault.JobFault.TheVariants.{TooLong}
use Rattle.cs_anacrontab.specs.Reading.{line_of}
use Rattle.cs_anacrontab.proofs.line.content.Goals as goal

pub returns-then-line-gt-MAX_LINE : goal.returns-then-line-gt-MAX_LINE
unfolding line_of
returns-then-line-gt-MAX_LINE c =
    let whole-is = c.whole.ensures ∙ ap (whole TooLong) (take_rest c.args.line.now MAX_LINE) in
    rw (lt-ltb MAX_LINE (length c.args.line.now) c.if-line-gt-MAX_LINE.true) (ap (λ (w : Wrong JobFault). Err w) (sym whole-is))
