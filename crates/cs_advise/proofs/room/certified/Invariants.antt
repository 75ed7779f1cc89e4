use Rattle.std.proofs.Common.{◌≤◌, ◌<◌, ◌≢◌}
use Rattle.cs_plan.specs.declared.limits.TheConstants.{MAX_MINUTES}
use Rattle.cs_advise.proofs.room.certified.Given as goal

abbrev pub invariant-loop : goal.invariant-loop
invariant-loop l =
    (1 ≤ l.max) × (l.max ≤ l.low) × (l.low ≤ l.high) × (l.high ≤ MAX_MINUTES) × (l.next ≤ l.high)
    × (l.low ≢ l.high → l.low < l.next)
