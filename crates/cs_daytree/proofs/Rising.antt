use Rattle.std.proofs.Common.{◌≡◌, ℕ, ◌+◌, ◌<◌, zero, suc, Bool, true, false, ◌&&◌, List, [], ◌∷◌, length, refl, arith}
use Rattle.std.specs.List.{IsAllAdjacentAnswer}
use Rattle.std.specs.Prelude.{slice_index_or}
use Rattle.cs_daytree.specs.Rising.{each_next}

true_and : (x y : Bool) → true ≡ x → true ≡ y → true ≡ (x && y)
true_and true y p q = q
true_and false y p q = p

and_false : (x y : Bool) → false ≡ y → false ≡ (x && y)
and_false true y e = e
and_false false y e = refl

first_false : (x y : Bool) → false ≡ x → false ≡ (x && y)
first_false true y e = cc
first_false false y e = refl

step : (k : ℕ) → suc k + 1 ≡ suc (k + 1)
step k = omega arith

module _ {A : Type 0} (test : A → A → Bool) where
  all_pass : (xs : List A) → ((k : ℕ) (d : A) → k + 1 < length xs → true ≡ test (slice_index_or xs k d) (slice_index_or xs (k + 1) d)) → true ≡ each_next test xs
  all_pass [] h = refl
  all_pass (a ∷ []) h = refl
  all_pass (a ∷ b ∷ xs) h =
      true_and (test a b) (each_next test (b ∷ xs)) (h 0 a (omega arith)) (all_pass (b ∷ xs) (λ k d below. rw (step k) at (h (suc k) d (omega arith))))

  some_fails : (xs : List A) (k : ℕ) → k + 1 < length xs → ((d : A) → false ≡ test (slice_index_or xs k d) (slice_index_or xs (k + 1) d)) → false ≡ each_next test xs
  some_fails [] k below h = absurd (omega arith)
  some_fails (a ∷ []) k below h = absurd (omega arith)
  some_fails (a ∷ b ∷ xs) zero below h = first_false (test a b) (each_next test (b ∷ xs)) (h a)
  some_fails (a ∷ b ∷ xs) (suc k) below h = and_false (test a b) (each_next test (b ∷ xs)) (some_fails (b ∷ xs) k (omega arith) (λ d. rw (step k) at (h d)))

  pub sorted_by : (xs : List A) (r : Bool) → IsAllAdjacentAnswer (λ x y b. b ≡ test x y) xs r → r ≡ each_next test xs
  sorted_by xs true h = all_pass xs h
  sorted_by xs false h = some_fails xs h.0 h.1 h.2
