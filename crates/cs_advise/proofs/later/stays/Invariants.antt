use Rattle.std.proofs.Common.{◌≡◌, ◌<◌, ◌≤◌, ◌+◌, ℕ, false}
use Rattle.cs_schedule.specs.Numbers.{has}
use Rattle.cs_advise.proofs.later.stays.Given as goal

abbrev pub invariant-loop-minute : goal.invariant-loop-minute
invariant-loop-minute l = (m : ℕ) → m < l.minute → 1440 ≤ m + l.minutes → has l.set m ≡ false
