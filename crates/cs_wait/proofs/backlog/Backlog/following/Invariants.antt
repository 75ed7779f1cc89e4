use Rattle.std.proofs.Common.{◌≡◌, ◌≤◌, ◌-◌, ◌++◌, drop}
use Rattle.cs_wait.specs.declared.backlog.TheConstants.{MAX_BACKLOG}
use Rattle.cs_wait.specs.Bounds.{following, following_from}
use Rattle.cs_wait.proofs.backlog.Backlog.following.Given as goal

abbrev pub invariant-loop-minute : goal.invariant-loop-minute
invariant-loop-minute l =
    (l.bound ≤ MAX_BACKLOG) × (l.minute ≤ 1440)
    × (l.list.items ++ following_from l.minute l.bound l.shown (drop l.minute l.sums) ≡ following l.first l.sums)

abbrev pub decreases-loop-minute : goal.decreases-loop-minute
decreases-loop-minute l = 1440 - l.minute
