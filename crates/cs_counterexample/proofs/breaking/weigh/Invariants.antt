use Rattle.std.proofs.Common.{◌≡◌, ◌+◌}
use Rattle.cs_plan.specs.Plan.{as_plan}
use Rattle.cs_counterexample.specs.Break.{weight_of}
use Rattle.cs_counterexample.proofs.breaking.weigh.Given as goal

abbrev pub invariant-loop-going : goal.invariant-loop-going
invariant-loop-going l = l.sum + weight_of (as_plan l.plan) l.going-iterator ≡ weight_of (as_plan l.plan) l.running
