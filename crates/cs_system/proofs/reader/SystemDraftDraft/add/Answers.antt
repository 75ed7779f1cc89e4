use Rattle.std.proofs.Common.{ap, ◌∙◌}
use Rattle.cs_table.specs.Text.{after, is_blank}
use Rattle.cs_table.specs.Wrong.{whole}
use Rattle.cs_table.proofs.Places.{whole_within, indent_within}
use Rattle.cs_crontab.specs.declared.fault.LineFault.TheVariants.{TooManyJobs}
use Rattle.cs_system.specs.declared.fault.SystemFault.TheVariants.{Line}
use Rattle.cs_system.proofs.reader.SystemDraftDraft.add.Goals as goal

pub returns-else-len-lt-MAX_COMMANDS-clause-within : goal.returns-else-len-lt-MAX_COMMANDS-clause-within
returns-else-len-lt-MAX_COMMANDS-clause-within c =
    let line = c.args.line.now in
    whole_within (Line TooManyJobs) line c.whole.result (after is_blank line) (indent_within line) (c.whole.ensures ∙ ap (whole (Line TooManyJobs)) c.skip_blanks.ensures)
