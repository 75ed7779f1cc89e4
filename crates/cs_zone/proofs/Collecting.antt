-- Collecting the minutes of a day that pass a test.
use Rattle.std.proofs.Common.{◌≡◌, ℕ, ◌<◌, Bool, true, false, ◌&&◌, ◌||◌, nat_eq, List, [], ◌∷◌, ◌++◌, refl, sym, ap, ◌∙◌, arith, inl, inr, true≢false}
use Rattle.std.proofs.lemmas.Bool.{cases_lt}
use Rattle.std.proofs.lemmas.Bool.Decides.{eqb_tells, nat_tests}
use Rattle.std.proofs.lemmas.List.Folds.{list_any-append}
use Rattle.cs_schedule.specs.Numbers.{has}
use Rattle.cs_schedule.specs.Minutes.{minutes_where}
use Rattle.cs_schedule.proofs.Ranges.{filter_same, has-filter, has-filter_past}

pub same_where : (p q : ℕ → Bool) → ((m : ℕ) → m < 1440 → p m ≡ q m) → minutes_where p ≡ minutes_where q
unfolding minutes_where
same_where p q h = filter_same p q 0 1440 (λ m low high. h m (omega arith))

pub has_where : (p : ℕ → Bool) (m : ℕ) → m < 1440 → has (minutes_where p) m ≡ p m
unfolding minutes_where
has_where p m below = has-filter p 0 1440 m (omega arith) (omega arith)

-- one more of those gone over
abbrev pub is_found : (ℕ → Bool) → (ℕ → Bool) → List ℕ → ℕ → Bool
is_found test due gone m = test m || (has gone m && due m)

one_more : (test due : ℕ → Bool) (gone : List ℕ) (m k : ℕ) → is_found test due (gone ++ m ∷ []) k ≡ (test k || ((has gone k || (nat_eq m k || false)) && due k))
one_more test due gone m k = ap (λ (b : Bool). test k || (b && due k)) (list_any-append (λ (x : ℕ). nat_eq x k) gone (m ∷ []))

pub found : (test due : ℕ → Bool) (gone : List ℕ) (m : ℕ) → due m ≡ true → minutes_where (λ k. nat_eq k m || has (minutes_where (is_found test due gone)) k) ≡ minutes_where (is_found test due (gone ++ m ∷ []))
found test due gone m is = same_where (λ k. nat_eq k m || has (minutes_where (is_found test due gone)) k) (is_found test due (gone ++ m ∷ [])) (λ k lt.
    ap (λ (b : Bool). nat_eq k m || b) (has_where (is_found test due gone) k lt) ∙ joins (has gone k) k ∙ sym (one_more test due gone m k))
  where
    joins : (h : Bool) (k : ℕ) → (nat_eq k m || (test k || (h && due k))) ≡ (test k || ((h || (nat_eq m k || false)) && due k))
    joins h k = grind (arith, nat_tests, is)

pub passed : (test due : ℕ → Bool) (gone : List ℕ) (m : ℕ) → due m ≡ false → minutes_where (is_found test due gone) ≡ minutes_where (is_found test due (gone ++ m ∷ []))
passed test due gone m is = same_where (is_found test due gone) (is_found test due (gone ++ m ∷ [])) (λ k lt. stays (has gone k) k ∙ sym (one_more test due gone m k))
  where
    stays : (h : Bool) (k : ℕ) → (test k || (h && due k)) ≡ (test k || ((h || (nat_eq m k || false)) && due k))
    stays h k = grind (arith, nat_tests, is)

pub known : (test due : ℕ → Bool) (gone : List ℕ) (m : ℕ) → is_found test due gone m ≡ true → minutes_where (is_found test due gone) ≡ minutes_where (is_found test due (gone ++ m ∷ []))
known test due gone m is = same_where (is_found test due gone) (is_found test due (gone ++ m ∷ [])) (λ k lt. stays (has gone) is k ∙ sym (one_more test due gone m k))
  where
    stays : (before : ℕ → Bool) → (test m || (before m && due m)) ≡ true → (k : ℕ) → (test k || (before k && due k)) ≡ (test k || ((before k || (nat_eq m k || false)) && due k))
    stays before e k = grind (arith, nat_tests, e)

-- those of two lists, if no other minute is due
pub of_both : (first second : List ℕ) (due : ℕ → Bool) → ((m : ℕ) → m < 1440 → has first m ≡ false → has second m ≡ false → due m ≡ false) → minutes_where (is_found (is_found (λ (_ : ℕ). false) due first) due second) ≡ minutes_where due
of_both first second due none = same_where (is_found (is_found (λ (_ : ℕ). false) due first) due second) due (λ m lt. by (has first m) (has second m) (due m) (none m lt))
  where
    by : (a b d : Bool) → (a ≡ false → b ≡ false → d ≡ false) → ((false || (a && d)) || (b && d)) ≡ d
    by a b d h = grind (arith, h)

pub below_day : (p : ℕ → Bool) (taken rest : List ℕ) (m : ℕ) → taken ++ (m ∷ rest) ≡ minutes_where p → m < 1440
unfolding minutes_where
below_day p taken rest m e =
    elim (cases_lt m 1440) [
      | inl lt ↦ lt
      | inr le ↦ absurd (true≢false (sym listed ∙ (ap (λ (xs : List ℕ). has xs m) e ∙ has-filter_past p 0 1440 m (omega arith))))
    ]
  where
    there : (b : Bool) → (b || true) ≡ true
    there true = refl
    there false = refl

    here : has (m ∷ rest) m ≡ true
    here = elim (eqb_tells m m) [
      | inl same ↦ rw same.0 refl
      | inr other ↦ absurd (other.1 refl)
    ]

    listed : has (taken ++ (m ∷ rest)) m ≡ true
    listed = list_any-append (λ (x : ℕ). nat_eq x m) taken (m ∷ rest) ∙ (ap (λ (b : Bool). has taken m || b) here ∙ there (has taken m))

pub never : minutes_where (λ (_ : ℕ). false) ≡ []
unfolding minutes_where
never = refl
