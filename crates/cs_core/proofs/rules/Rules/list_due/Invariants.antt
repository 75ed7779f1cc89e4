use Rattle.std.proofs.Common.{◌≡◌, ◌≤◌, ℕ, filter, length}
use Rattle.cs_history.specs.Lists.{below}
use Rattle.cs_plan.specs.Plan.{as_plan}
use Rattle.cs_core.proofs.rules.Rules.list_due.Given as goal

abbrev pub invariant-loop-job : goal.invariant-loop-job
invariant-loop-job l = record {
  listed : l.pending.items ≡ filter (λ (j : ℕ). (as_plan l.self).due j l.fn.minute) (below l.job);
  few : length l.pending.items ≤ l.job;
}
