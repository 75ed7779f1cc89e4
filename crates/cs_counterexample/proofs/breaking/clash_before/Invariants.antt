use Rattle.std.proofs.Common.{◌≡◌}
use Rattle.cs_plan.specs.Plan.{as_plan}
use Rattle.cs_counterexample.specs.Trial.{clash_before}
use Rattle.cs_counterexample.proofs.breaking.clash_before.Given as goal

abbrev pub invariant-loop-going : goal.invariant-loop-going
invariant-loop-going l = clash_before (as_plan l.plan) l.going-iterator l.run ≡ clash_before (as_plan l.plan) l.earlier l.run
