use Rattle.std.proofs.Common.{◌≡◌, ◌++◌, take, drop}
use Rattle.cs_plan.specs.Plan.{as_plan}
use Rattle.cs_history.specs.Lists.{placed}
use Rattle.cs_history.specs.Plan.{is_sooner}
use Rattle.cs_core.proofs.rules.place.Given as goal

abbrev pub invariant-loop-place : goal.invariant-loop-place
invariant-loop-place l = placed (is_sooner (as_plan l.plan)) l.job l.order ≡ take l.place l.order ++ placed (is_sooner (as_plan l.plan)) l.job (drop l.place l.order)
