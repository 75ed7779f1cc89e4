use Rattle.std.proofs.Common.{◌≤◌, ◌<◌, ◌≢◌}
use Rattle.cs_plan.specs.declared.limits.TheConstants.{MAX_MINUTES}
use Rattle.cs_advise.proofs.room.hoped.Given as goal

abbrev pub invariant-loop-tried : goal.invariant-loop-tried
invariant-loop-tried l =
    (1 ≤ l.max) × (l.max ≤ l.low) × (l.low ≤ l.high) × (l.high ≤ MAX_MINUTES) × (l.next ≤ l.high)
    × (l.low ≢ l.high → l.low < l.next)
