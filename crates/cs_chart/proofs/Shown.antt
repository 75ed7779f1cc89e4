-- The minutes of one more day of a picture.
use Rattle.std.proofs.Common.{ℕ, ◌+◌, ◌-◌, ◌*◌, ◌/◌, ◌%◌, ◌<◌, ◌≤◌, ◌≡◌, Bool, true, false, ◌&&◌, ◌||◌, refl, arith, inl, inr}
use Rattle.std.specs.Prelude.{nat_le, nat_lt}
use Rattle.std.proofs.lemmas.Bool.{cases_lt, lt-ltb, le-ltb, le-leb, lt-leb}

or_none : (b : Bool) → (b || false) ≡ b
or_none true = refl
or_none false = refl

-- what holds of the minutes of the first days, and of those of the next, holds of one more day
pub next_day : (f : ℕ → ℕ → Bool) (p minute : ℕ)
    → ((nat_lt minute (1440 * p) && f (minute / 1440) (minute % 1440))
    || ((nat_le (1440 * p) minute && nat_lt minute (1440 * p + 1440)) && f p (minute - 1440 * p)))
    ≡ (nat_lt minute (1440 * (p + 1)) && f (minute / 1440) (minute % 1440))
next_day f p minute = elim (cases_lt minute (1440 * p)) [
  | inl before ↦
      let within : minute < 1440 * (p + 1) = omega arith in
      rw (lt-ltb minute (1440 * p) before, lt-leb (1440 * p) minute before, lt-ltb minute (1440 * (p + 1)) within)
      (or_none (f (minute / 1440) (minute % 1440)))
  | inr from ↦ elim (cases_lt minute (1440 * p + 1440)) [
    | inl within ↦
        let also : minute < 1440 * (p + 1) = omega arith in
        let day : minute / 1440 ≡ p = omega arith in
        let rest : minute % 1440 ≡ minute - 1440 * p = omega arith in
        rw (le-ltb minute (1440 * p) from, le-leb (1440 * p) minute from, lt-ltb minute (1440 * p + 1440) within, lt-ltb minute (1440 * (p + 1)) also, day, rest) refl
    | inr behind ↦
        let past : 1440 * (p + 1) ≤ minute = omega arith in
        rw (le-ltb minute (1440 * p) from, le-leb (1440 * p) minute from, le-ltb minute (1440 * p + 1440) behind, le-ltb minute (1440 * (p + 1)) past) refl
  ]
]
