use Rattle.std.proofs.Common.{◌≡◌, ℕ, zero, ◌+◌, ◌<◌, length, slice_index_or, map, Bor, Bool, true, false, cond, List, [], ◌∷◌, ◌++◌, filter, suc, if◌then◌else◌, nat_eq, refl, sym, ap, ◌∙◌, subst, arith}
use Rattle.std.specs.List.{list_any}
use Rattle.cs_claims.specs.declared.class.Class.{Class}
use Rattle.cs_classes.specs.Claim.{class_at}
use Rattle.std.proofs.lemmas.Bool.{both_ways, eq-eqb, eqb-true, false_from_ne_true}
use Rattle.cs_history.specs.Lists.{total, below}
use Rattle.cs_theorem.proofs.Below.{below_range}
use Rattle.cs_theorem.proofs.Elements.{any_has}
use Rattle.cs_windows.proofs.Members.{Has, has_range}

pub any_below : (t : ℕ → Bool) (n m : ℕ) → n < m → t n ≡ true → list_any t (below m) ≡ true
any_below t n m lt e = any_has t (below m) n (subst (λ (xs : List ℕ). Has xs n) (sym (below_range m)) (has_range 0 m n (omega arith) (omega (arith, lt)))) e

pub filter_push : {A : Type 0} (t : A → Bool) (xs : List A) (y : A) → filter t (xs ++ y ∷ []) ≡ filter t xs ++ (if t y then y ∷ [] else [])
filter_push t [] y = refl
filter_push {A} t (x ∷ xs) y = step (t x) (filter_push t xs y)
  where
    step : (b : Bool) → filter t (xs ++ y ∷ []) ≡ filter t xs ++ (if t y then y ∷ [] else []) → cond b (x ∷ filter t (xs ++ y ∷ [])) (filter t (xs ++ y ∷ [])) ≡ cond b (x ∷ filter t xs) (filter t xs) ++ (if t y then y ∷ [] else [])
    step true e = ap (λ (ys : List A). x ∷ ys) e
    step false e = e

total_append : (f : ℕ → ℕ) (xs ys : List ℕ) → total f (xs ++ ys) ≡ total f xs + total f ys
total_append f [] ys = omega arith
total_append f (x ∷ xs) ys = omega (arith, total_append f xs ys)

total_one : (f : ℕ → ℕ) (b : Bool) (y : ℕ) → total f (if b then y ∷ [] else []) ≡ (if b then f y else 0)
total_one f true y = omega arith
total_one f false y = refl

pub total_passing : (f : ℕ → ℕ) (t : ℕ → Bool) (n : ℕ) → total f (filter t (below (n + 1))) ≡ total f (filter t (below n)) + (if t n then f n else 0)
total_passing f t n =
    let e : n + 1 ≡ suc n = omega arith in
    ap (λ (k : ℕ). total f (filter t (below k))) e ∙ ap (total f) (filter_push t (below n) n) ∙ total_append f (filter t (below n)) (if t n then n ∷ [] else []) ∙ ap (λ (k : ℕ). total f (filter t (below n)) + k) (total_one f (t n) n)

pub eqb-sym : (a b : ℕ) → nat_eq a b ≡ nat_eq b a
eqb-sym a b = step (nat_eq a b) refl
  where
    step : (x : Bool) → nat_eq a b ≡ x → nat_eq a b ≡ nat_eq b a
    step true e = e ∙ sym (eq-eqb b a (sym (eqb-true a b e)))
    step false e = e ∙ sym (false_from_ne_true (nat_eq b a) (λ h. both_ways (nat_eq a b) e (eq-eqb a b (sym (eqb-true b a h)))))

-- within a list it does not matter what is past it
pub within : {X : Type 0} (xs : List X) (i : ℕ) (d e : X) → i < length xs → slice_index_or xs i d ≡ slice_index_or xs i e
within [] i d e lt = absurd (omega (arith, lt))
within (x ∷ xs) zero d e lt = refl
within (x ∷ xs) (suc i) d e lt = within xs i d e (omega (arith, lt))

pub first_day : (days : List (Bor Class)) (x : Bor Class) → 0 < length days → x ≡ slice_index_or days 0 x → class_at (map (λ (class : Bor Class). class.now) days) 0 ≡ x.now
first_day [] x lt e = absurd (omega (arith, lt))
first_day (d ∷ days) x lt e = sym (ap (λ (class : Bor Class). class.now) e)
