use Rattle.std.proofs.Common.{◌≡◌}
use Rattle.cs_plan.specs.Plan.{as_plan}
use Rattle.cs_counterexample.specs.Trial.{any_over}
use Rattle.cs_counterexample.proofs.deadline.any_over.Given as goal

abbrev pub invariant-loop-going : goal.invariant-loop-going
invariant-loop-going l = any_over (as_plan l.plan) l.going-iterator l.minute ≡ any_over (as_plan l.plan) l.running l.minute
