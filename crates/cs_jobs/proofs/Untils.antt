-- The minute in which a run must have ended.
use Rattle.std.proofs.Common.{◌≡◌, ◌+◌, ◌^◌, ◌<◌, ◌≤◌, ◌&&◌, ◌↔◌, ◌∙◌, ℕ, Bool, true, false, if◌then◌else◌, Option, None, Some, refl, sym, ap, ⊎_elim, true≢false, arith}
use Rattle.std.proofs.lemmas.Bool.{and_from, cases_lt, le-leb, leb-true, lt-leb}
use Rattle.std.specs.Prelude.{IfSome, IsSome, nat_le}
use Rattle.cs_civil.specs.Calendar.{first_minute, last_minute}
use Rattle.cs_jobs.specs.Commands.{civil}

unless_both : (a b : Bool) (t : ℕ) → b ≡ false → None ≡ (if a && b then Some t else None)
unless_both false b t past = refl
unless_both true false t past = refl
unless_both true true t past = absurd (true≢false past)

late : (t : ℕ) → last_minute < t → None ≡ civil t
late t past = unless_both (nat_le first_minute t) (nat_le t last_minute) t (lt-leb t last_minute past)

-- a sum that 64 bits don't hold is later than the last minute
pub past : (since max limit : ℕ) → ¬ (since + max < 2 ^ 64) → max ≡ limit → None ≡ civil (since + limit)
past since max limit over same =
    ⊎_elim (λ (low : since + max < 2 ^ 64). absurd (over low))
    (λ (high : 2 ^ 64 ≤ since + max). late (since + limit) (omega (arith, high, same))) (cases_lt (since + max) (2 ^ 64))

pub made : (r : Option ℕ) (t : ℕ) → (IsSome r ↔ ((first_minute ≤ t) × (t ≤ last_minute))) → IfSome r (λ m. m ≡ t) → r ≡ civil t
made (Some m) t range is =
    let h : (first_minute ≤ t) × (t ≤ last_minute) = range.0 refl in
    ap Some is ∙ sym (ap (λ (b : Bool). if b then Some t else None) (and_from (nat_le first_minute t) (nat_le t last_minute) (le-leb first_minute t h.0) (le-leb t last_minute h.1)))
made None t range is = go (nat_le first_minute t) (nat_le t last_minute) refl refl
  where
    go : (a b : Bool) → nat_le first_minute t ≡ a → nat_le t last_minute ≡ b → None ≡ (if a && b then Some t else None)
    go false b low high = refl
    go true false low high = refl
    go true true low high = absurd (true≢false (sym (range.1 (leb-true first_minute t low, leb-true t last_minute high))))
