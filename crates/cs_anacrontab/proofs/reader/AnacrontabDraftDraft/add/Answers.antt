use Rattle.std.proofs.Common.{ℕ, List, ap, subst, ◌∙◌}
use Rattle.cs_table.specs.Text.{after, is_blank}
use Rattle.cs_table.specs.Wrong.{at_front, whole}
use Rattle.cs_table.proofs.Places.{whole_within, indent_within}
use Rattle.cs_anacrontab.specs.declared.fault.JobFault.TheVariants.{TwiceNamed, TooManyJobs}
use Rattle.cs_anacrontab.specs.Grammar.{Says}
use Rattle.cs_anacrontab.specs.Seen.{entry_seen}
use Rattle.cs_anacrontab.proofs.Tables.{named_within}
use Rattle.cs_anacrontab.proofs.reader.AnacrontabDraftDraft.add.Goals as goal

pub returns-then-is_named-clause-within : goal.returns-then-is_named-clause-within
returns-then-is_named-clause-within c =
    let line = c.args.line.now in
    let job = c.in-Ok-Job in
    let says = subst (λ e. Says line (entry_seen e)) job.field-0-is job.ensures.says in
    named_within line job.period job.delay job.identifier.now job.command.now c.at_front.result says
    (c.at_front.ensures ∙ ap (λ (l : List ℕ). at_front TwiceNamed l job.identifier.now) c.from_identifier-text.ensures)

pub returns-else-len-lt-MAX_JOBS-clause-within : goal.returns-else-len-lt-MAX_JOBS-clause-within
returns-else-len-lt-MAX_JOBS-clause-within c =
    let line = c.args.line.now in
    whole_within TooManyJobs line c.whole.result (after is_blank line) (indent_within line) (c.whole.ensures ∙ ap (whole TooManyJobs) c.skip_blanks.ensures)
