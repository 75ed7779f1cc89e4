use Rattle.std.proofs.Common.{◌≡◌, ◌+◌, length}
use Rattle.cs_plan.specs.Plan.{as_plan, crons}
use Rattle.cs_history.specs.Plan.{placed_below}
use Rattle.cs_core.proofs.rules.by_delay.Given as goal

abbrev pub invariant-loop-job : goal.invariant-loop-job
invariant-loop-job l = record {
  listed : l.order.items ≡ placed_below (as_plan l.plan) l.job;
  few : length l.order.items + crons l.plan ≡ l.job;
}
