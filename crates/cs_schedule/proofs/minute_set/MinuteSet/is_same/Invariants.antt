use Rattle.std.proofs.Common.{◌≡◌, ◌<◌, ◌/◌, ℕ}
use Rattle.cs_schedule.specs.Numbers.{has}
use Rattle.cs_schedule.proofs.minute_set.MinuteSet.is_same.Given as goal

abbrev pub invariant-loop-place : goal.invariant-loop-place
invariant-loop-place l = (m : ℕ) → m < 1440 → m / 64 < l.place → has l.self m ≡ has l.other m
