use Rattle.std.proofs.Common.{◌≡◌, fold}
use Rattle.cs_plan.specs.Plan.{as_plan}
use Rattle.cs_core.specs.Standing.{names}
use Rattle.cs_keep.specs.FirstToGet.{first_to_get, may_get, with_run}
use Rattle.cs_keep.proofs.next.first_to_get.Given as goal

abbrev pub invariant-loop-going : goal.invariant-loop-going
invariant-loop-going l = fold (with_run (may_get (as_plan l.core.plan) l.core.state)) l.best (names l.going-iterator) ≡ first_to_get (as_plan l.core.plan) l.core.state
