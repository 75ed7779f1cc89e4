use Rattle.std.proofs.Common.{◌≡◌, ◌<◌, ℕ}
use Rattle.cs_schedule.specs.Numbers.{has}
use Rattle.cs_advise.proofs.later.are_alike.Given as goal

abbrev pub invariant-loop-number : goal.invariant-loop-number
invariant-loop-number l = (n : ℕ) → n < l.number → has l.one.numbers n ≡ has l.other.numbers n
