use Rattle.std.proofs.Common.{◌∙◌, arith, sym}
use Rattle.cs_draft.specs.Answer.{IsOfTables}
use Rattle.cs_draft.proofs.Loops.{one_more, to_the_end}
use Rattle.cs_draft.proofs.answer.first_unknown.Goals as goal

pub loop-one-preserved : goal.loop-one-preserved
loop-one-preserved c = one_more (IsOfTables c.args.lines.now c.args.jobs.now) c.args.given.now c.loop-one.one-index c.one-item.result (omega arith) c.one-item.is c.loop-one.invariant (sym c.has_job.ensures ∙ c.if-not-has_job.false)

pub returns-clause-none : goal.returns-clause-none
returns-clause-none c = λ _. to_the_end (IsOfTables c.args.lines.now c.args.jobs.now) c.args.given.now c.loop-one.one-index (omega arith) c.loop-one.invariant
