use Rattle.cs_plan.specs.Plan.{as_plan}
use Rattle.cs_core.proofs.Kept.{kept_start}
use Rattle.cs_core.proofs.event_core.Core.open.Goals as goal

pub invariant_of-result : goal.invariant_of-result
invariant_of-result c = rw (c.new-2.ensures, c.new-3.ensures, c.new-4.ensures, c.new-7.ensures, c.in_ok-new.ensures) (kept_start (as_plan c.args.plan.now) _ _ _ _ _ c.jobs-jobs.ensures.resolved c.jobs-jobs.ensures.whole.few_groups c.new-5.ensures c.new-6.ensures)
