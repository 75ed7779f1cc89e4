use Rattle.std.proofs.Common.{ℕ, ◌≤◌}
use Rattle.cs_plan.specs.Plan.{as_plan}
use Rattle.cs_counterexample.specs.Trial.{IsDeadline}
use Rattle.cs_counterexample.proofs.deadline.first_deadline.Given as goal

-- what is a deadline of those that are left is one of all, so far as it isn't later than the first
abbrev pub invariant-loop-going : goal.invariant-loop-going
invariant-loop-going l = (n : ℕ) → n ≤ l.first → IsDeadline (as_plan l.plan) n l.going-iterator → IsDeadline (as_plan l.plan) n l.running
