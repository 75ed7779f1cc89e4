use Rattle.std.proofs.Common.{ℕ, ◌≤◌, arith}
use Rattle.cs_schedule.specs.Times.{Times}
use Rattle.cs_schedule.specs.Gap.{AreApart}

pub still_apart : (s : Times) (n gap : ℕ) → AreApart s gap → n ≤ gap → AreApart s n
still_apart s n gap apart less t u due later before = let far = apart t u due later before in omega (arith, far, less)
