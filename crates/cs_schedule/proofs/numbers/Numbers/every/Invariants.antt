use Rattle.std.proofs.Common.{◌≡◌, ◌<◌, ℕ, ◌&&◌, nat_lt}
use Rattle.cs_schedule.specs.Numbers.{has_bit, is_every}
use Rattle.cs_schedule.proofs.numbers.Numbers.every.Given as goal

abbrev pub invariant-loop-number : goal.invariant-loop-number
invariant-loop-number l = (k : ℕ) → k < 64 → has_bit l.word k ≡ (nat_lt k l.number && is_every l.first l.last l.step k)
