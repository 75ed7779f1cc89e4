use Rattle.std.proofs.Common.{◌≡◌, ◌&&◌, false}
use Rattle.std.specs.List.{list_any}
use Rattle.cs_plan.specs.Plan.{as_plan}
use Rattle.cs_history.specs.Lists.{below}
use Rattle.cs_history.specs.Plan.{locks, waits}
use Rattle.cs_classes.proofs.locks.has_waiter.Given as goal

abbrev pub invariant-loop-number : goal.invariant-loop-number
invariant-loop-number l = list_any (λ j. waits (as_plan l.plan) j && locks (as_plan l.plan) l.group j) (below l.number) ≡ false
