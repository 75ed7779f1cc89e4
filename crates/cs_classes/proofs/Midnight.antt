use Rattle.std.proofs.Common.{◌≡◌, ℕ, ◌+◌, ◌-◌, ◌<◌, ◌≤◌, ◌∷◌, [], refl, subst, arith, inl, inr}
use Rattle.std.proofs.lemmas.Bool.{lt-ltb, cases_lt}
use Rattle.cs_wait.specs.Bounds.{StepsHold, StepsHoldWithin, at_days}

-- on the first of two days the bound is its own
at_first : (before day : ℕ → ℕ) (t : ℕ) → t < 1440 → at_days (before ∷ day ∷ []) t ≡ before t
at_first before day t lt = rw (lt-ltb t 1440 lt) refl

-- what arrives matters at the minutes of the day alone
pub within_same : (bound other arrive next : ℕ → ℕ) → ((t : ℕ) → bound t ≡ other t) → ((t : ℕ) → t < 1440 → arrive t ≡ next t) → StepsHoldWithin bound arrive → StepsHoldWithin other next
within_same bound other arrive next same both h t lt = omega (arith, h t lt, same t, same (t + 1), both t (omega (arith, lt)))

pub steps_split : (before arrive day : ℕ → ℕ) → StepsHold before arrive day → StepsHoldWithin before arrive × (before 1439 + arrive 1439 ≤ day 0 + 1)
steps_split before arrive day h = (λ t lt. omega (arith, h t (omega (arith, lt)), at_first before day (t + 1) lt), omega (arith, h 1439 (omega arith)))

pub steps_join : (before arrive day : ℕ → ℕ) → StepsHoldWithin before arrive → before 1439 + arrive 1439 ≤ day 0 + 1 → StepsHold before arrive day
steps_join before arrive day within over t lt =
    elim (cases_lt (t + 1) 1440) [
      | inl next ↦ omega (arith, within t next, at_first before day (t + 1) next)
      | inr end ↦
          let last : 1439 ≡ t = omega (arith, lt, end) in
          subst (λ (u : ℕ). before u + arrive u - 1 ≤ at_days (before ∷ day ∷ []) (u + 1)) last (omega (arith, over))
    ]
