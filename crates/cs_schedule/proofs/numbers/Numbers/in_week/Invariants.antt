use Rattle.std.proofs.Common.{◌≡◌, ◌<◌, ℕ, ◌&&◌, nat_lt}
use Rattle.cs_schedule.specs.Numbers.{has_bit, is_in_week}
use Rattle.cs_schedule.proofs.numbers.Numbers.in_week.Given as goal

abbrev pub invariant-loop-number : goal.invariant-loop-number
invariant-loop-number l = (k : ℕ) → k < 64 → has_bit l.word k ≡ (nat_lt k l.number && is_in_week l.self k)
