use Rattle.std.proofs.Common.{◌≡◌, ◌<◌, ◌≤◌, ℕ, ◌+◌, ◌-◌, ◌/◌, ◌%◌, ◌&&◌, nat_lt, true, length}
use Rattle.cs_schedule.specs.Minutes.{is_in, is_shown}
use Rattle.cs_schedule.specs.Numbers.{has}
use Rattle.cs_schedule.proofs.minute_set.MinuteSet.of_times.Given as goal

abbrev pub invariant-loop-hour : goal.invariant-loop-hour
invariant-loop-hour l =
    (length l.words ≡ 23)
    × (l.hour ≤ 64)
    × (l.hour < 24 → has l.hours l.hour ≡ true)
    × ((k : ℕ) → k < 1440 → is_in l.words k ≡ (nat_lt ((k + l.turn) % 1440 / 60) l.hour && is_shown l.hours l.minutes l.from l.to ((k + l.turn) % 1440)))

abbrev pub decreases-loop-hour : goal.decreases-loop-hour
decreases-loop-hour l = 64 - l.hour
