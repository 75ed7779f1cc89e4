-- Jumps that are no fault make a zone.
use Rattle.std.proofs.Common.{◌≡◌, ℕ, ℤ, pos, ◌+◌, ◌≤◌, ◌+ℤ◌, ◌-ℤ◌, ◌*ℤ◌, false, arith, unsigned_abs, int_lt, int_div, if◌then◌else◌}
use Rattle.std.proofs.lemmas.Int.{ints, quot-rem, rem_below}
use Rattle.std.proofs.lemmas.Bool.Decides.{nat_tests}
use Rattle.jiff_tz.specs.declared.posix.Day.TheVariants.{WeekdayOfMonth}
use Rattle.cs_rule.specs.Faults.{is_by_march}
use Rattle.cs_rule.specs.Rule.{after_march, earliest}

-- a jump that is no fault is a week or more after 1 March, if it isn't in February
pub after_first : (m w d : ℕ) → 1 ≤ m → m ≤ 12 → 1 ≤ w → is_by_march (WeekdayOfMonth m w d) ≡ false → after_march m ≤ 10 → 7 ≤ earliest m w
after_first m w d low high first fine = grind (arith, nat_tests)

-- and a week or more before 28 February, if it isn't in March
pub before_last : (m w d : ℕ) → 1 ≤ m → m ≤ 12 → 1 ≤ w → w ≤ 5 → is_by_march (WeekdayOfMonth m w d) ≡ false → earliest m w ≤ 351
before_last m w d low high first last fine = grind (arith, nat_tests)

-- jumps of months that aren't near are two weeks apart
pub apart : (m w n v : ℕ) → 1 ≤ w → w ≤ 5 → 1 ≤ v → v ≤ 5 → after_march m + 2 ≤ after_march n → earliest m w + 14 ≤ earliest n v
apart m w n v = grind (arith, nat_tests)

-- Clocks of p and o seconds are at most two hours apart.
pub saving_fits : (p o a b : ℤ) → unsigned_abs (p -ℤ o) ≤ 7200 → p ≡ pos 60 *ℤ a → o ≡ pos 60 *ℤ b → unsigned_abs (b -ℤ a) ≤ 120
saving_fits p o a b fit is_p is_o = omega (arith, ints)

-- b is n ahead of a or behind it
pub ahead_or_behind : (a b : ℤ) (n : ℕ) → n ≡ unsigned_abs (b -ℤ a) → b ≡ (if int_lt a b then a +ℤ pos n else a -ℤ pos n)
ahead_or_behind a b n is_n = grind (arith, ints)

-- seconds that are so many minutes
pub are_minutes : (seconds minutes : ℤ) → seconds ≡ pos 60 *ℤ minutes → minutes ≡ int_div seconds (pos 60)
are_minutes seconds minutes are = omega (arith, ints, quot-rem seconds (pos 60), rem_below seconds (pos 60))
