use Rattle.std.proofs.Common.{◌≡◌, ◌<◌, ◌+◌, ◌%◌, ℕ}
use Rattle.cs_schedule.specs.Numbers.{has}
use Rattle.cs_advise.proofs.later.are_later.Given as goal

abbrev pub invariant-loop-minute : goal.invariant-loop-minute
invariant-loop-minute l = (m : ℕ) → m < l.minute → has l.other ((m + l.minutes) % 1440) ≡ has l.one m
