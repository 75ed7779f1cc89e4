-- Counting the numbers of a range that pass a test.
use Rattle.std.proofs.Common.{◌≡◌, ℕ, zero, suc, ◌+◌, ◌<◌, ◌≤◌, Bool, true, false, cond, List, [], ◌∷◌, length, filter, refl, ap, sym, ◌∙◌, arith, true≢false}
use Rattle.std.specs.List.{range_with_len}
use Rattle.std.proofs.lemmas.List.{length-append}
use Rattle.cs_schedule.specs.Numbers.{has}
use Rattle.cs_schedule.proofs.Ranges.{has-filter}
use Rattle.cs_schedule.proofs.Words.{filter_more}

pub count_more : (p : ℕ → Bool) (a k : ℕ) → length (filter p (range_with_len a (k + 1))) ≡ length (filter p (range_with_len a k)) + cond (p (a + k)) 1 0
count_more p a k =
    let one-more : k + 1 ≡ suc k = omega arith in
    ap (λ n. length (filter p (range_with_len a n))) one-more
    ∙ ap length (filter_more p a k (a + k) refl)
    ∙ length-append (filter p (range_with_len a k)) (cond (p (a + k)) ((a + k) ∷ []) [])
    ∙ ap (λ n. length (filter p (range_with_len a k)) + n) (one (p (a + k)))
  where
    one : (b : Bool) → length (cond b ((a + k) ∷ []) []) ≡ cond b 1 0
    one true = refl
    one false = refl

pub count_some : (p : ℕ → Bool) (a n x : ℕ) → a ≤ x → x < a + n → p x ≡ true → 0 < length (filter p (range_with_len a n))
count_some p a n x le lt listed = by (filter p (range_with_len a n)) (has-filter p a n x le lt ∙ listed)
  where
    by : (xs : List ℕ) → has xs x ≡ true → 0 < length xs
    by [] e = absurd (true≢false (sym e))
    by (y ∷ ys) e = omega arith

pub count_found : (p : ℕ → Bool) (a n : ℕ) → 0 < length (filter p (range_with_len a n)) → (x : ℕ) × (a ≤ x) × (x < a + n) × (p x ≡ true)
count_found p a zero some = absurd (omega (arith, some))
count_found p a (suc n) some = by (p a) refl some (count_found p (a + 1) n)
  where
    rest : List ℕ
    rest = filter p (range_with_len (a + 1) n)

    by : (b : Bool) → p a ≡ b → 0 < length (cond b (a ∷ rest) rest)
        → (0 < length rest → (x : ℕ) × (a + 1 ≤ x) × (x < a + 1 + n) × (p x ≡ true))
        → (x : ℕ) × (a ≤ x) × (x < a + suc n) × (p x ≡ true)
    by true e _ _ = (a, omega arith, omega arith, e)
    by false e more later = let found = later more in (found.0, omega (arith, found.1), omega (arith, found.2), found.3)
