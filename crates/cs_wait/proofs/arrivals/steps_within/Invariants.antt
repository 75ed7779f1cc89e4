use Rattle.std.proofs.Common.{◌≡◌, ℕ, ◌≤◌, ◌<◌, ◌+◌, ◌-◌, drop, fold, slice_index}
use Rattle.cs_wait.specs.Bounds.{IsBacklogFrom, at, decided}
use Rattle.cs_wait.proofs.arrivals.steps_within.Given as goal

abbrev pub invariant-loop-minute : goal.invariant-loop-minute
invariant-loop-minute l =
    (l.minute < 1440)
    × IsBacklogFrom (l.minute + 1) (drop l.walk.place l.list)
    × ((t : ℕ) → l.minute ≤ t → fold (decided t) (l.walk.bound - (t - l.minute)) (drop l.walk.place l.list) ≡ at l.list t)
    × ((t : ℕ) → t < l.minute → at l.list t + slice_index l.arrivals t - 1 ≤ at l.list (t + 1))

abbrev pub decreases-loop-minute : goal.decreases-loop-minute
decreases-loop-minute l = 1440 - l.minute
