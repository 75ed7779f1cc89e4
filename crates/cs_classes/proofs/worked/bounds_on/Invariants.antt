use Rattle.std.proofs.Common.{◌≡◌, filter, map}
use Rattle.cs_theorem.specs.Faults.{has_waiter}
use Rattle.cs_claims.specs.Certificate.{bound_in}
use Rattle.cs_classes.specs.StandsFor.{bound_of}
use Rattle.cs_plan.specs.Plan.{as_plan}
use Rattle.cs_history.specs.Lists.{below}
use Rattle.cs_classes.proofs.worked.bounds_on.Given as goal

abbrev pub invariant-loop-group : goal.invariant-loop-group
invariant-loop-group l = l.bounds ≡ map (λ g. bound_of l.plan l.day (bound_in l.class g 0) g) (filter (has_waiter (as_plan l.plan)) (below l.group))
