-- The first place that passes a test, and the first element.
use Rattle.std.proofs.Common.{◌≡◌, ℕ, suc, ◌+◌, ◌<◌, List, [], ◌∷◌, Bool, true, false, not, ◌||◌, cond, length, nat_lt, Option, Some, None, option_map, refl, sym, ap, ◌∙◌, arith}
use Rattle.std.specs.Prelude.{position, All, IfSome, IsSome}
use Rattle.std.specs.List.{list_any, find, prefix_len}
use Rattle.std.proofs.lemmas.Bool.{lt-ltb}
use Rattle.std.proofs.lemmas.List.Elements.{All-nil, All-cons, All-head, All-tail}
use Prim.Native.Nat.compare
use lib.Dec.{is_le}

-- the same by recursion
abbrev pub first_at : {A : Type 0} → (A → Bool) → List A → Option ℕ
first_at p [] = None
first_at p (x ∷ xs) = cond (p x) (Some 0) (option_map suc (first_at p xs))

lt_suc : (n m : ℕ) → nat_lt (suc n) (suc m) ≡ nat_lt n m
lt_suc n m = ap is_le (compare.suc-suc (suc n) m)

zero_lt : (m : ℕ) → nat_lt 0 (suc m) ≡ true
zero_lt m = lt-ltb 0 (suc m) (omega arith)

position_step : (n m : ℕ) → cond (nat_lt (suc n) (suc m)) (Some (suc n)) None ≡ option_map suc (cond (nat_lt n m) (Some n) None)
position_step n m = rw (lt_suc n m) (cond_map (nat_lt n m) n)
  where
    cond_map : (b : Bool) (k : ℕ) → cond b (Some (suc k)) None ≡ option_map suc (cond b (Some k) None)
    cond_map true k = refl
    cond_map false k = refl

position_at : {A : Type 0} (p : A → Bool) (b : Bool) (x : A) (xs : List A) → p x ≡ b → position p xs ≡ first_at p xs → position p (x ∷ xs) ≡ cond b (Some 0) (option_map suc (first_at p xs))
position_at p true x xs e h = rw (e, zero_lt (length xs)) refl
position_at p false x xs e h =
    let one : 1 + prefix_len (λ y. not (p y)) xs ≡ suc (prefix_len (λ y. not (p y)) xs) = omega arith in
    rw (e, one, ← h) (position_step (prefix_len (λ y. not (p y)) xs) (length xs))

pub position_is : {A : Type 0} (p : A → Bool) (xs : List A) → position p xs ≡ first_at p xs
position_is p [] = refl
position_is p (x ∷ xs) = position_at p (p x) x xs refl (position_is p xs)

none_step : {A : Type 0} (p : A → Bool) (x : A) (xs : List A) (b : Bool) → p x ≡ b → cond b (Some 0) (option_map suc (first_at p xs)) ≡ None → (first_at p xs ≡ None → All (λ y. p y ≡ false) xs) → All (λ y. p y ≡ false) (x ∷ xs)
none_step p x xs true is e more = absurd cc
none_step p x xs false is e more = All-cons (λ y. p y ≡ false) x xs is (more (unmapped (first_at p xs) e))
  where
    unmapped : (o : Option ℕ) → option_map suc o ≡ None → o ≡ None
    unmapped None e = refl
    unmapped (Some i) e = absurd cc

nowhere : {A : Type 0} (p : A → Bool) (xs : List A) → first_at p xs ≡ None → All (λ x. p x ≡ false) xs
nowhere p [] e = All-nil (λ x. p x ≡ false)
nowhere p (x ∷ xs) e = none_step p x xs (p x) refl e (nowhere p xs)

pub position_none : {A : Type 0} (p : A → Bool) (xs : List A) → position p xs ≡ None → All (λ x. p x ≡ false) xs
position_none p xs e = nowhere p xs (sym (position_is p xs) ∙ e)

found_step : {A : Type 0} (P : A → Type 0) (x y : A) (b : Bool) (o : Option A) → cond b (Some x) o ≡ Some y → P x → (o ≡ Some y → P y) → P y
found_step P x y true o e here more = let same : x ≡ y = cc in rw (← same) here
found_step P x y false o e here more = more e

pub found : {A : Type 0} (P : A → Type 0) (p : A → Bool) (xs : List A) (y : A) → find p xs ≡ Some y → All P xs → P y
found P p [] y e each = absurd cc
found P p (x ∷ xs) y e each = found_step P x y (p x) (find p xs) e (All-head P x xs each) (λ h. found P p xs y h (All-tail P x xs each))

below_step : {A : Type 0} (xs : List A) (b : Bool) (o : Option ℕ) → IfSome o (λ i. i < length xs) → IfSome (cond b (Some 0) (option_map suc o)) (λ i. i < suc (length xs))
below_step xs true o h = omega arith
below_step xs false None h = tt
below_step xs false (Some i) h = omega (arith, h)

below_at : {A : Type 0} (p : A → Bool) (xs : List A) → IfSome (first_at p xs) (λ i. i < length xs)
below_at p [] = tt
below_at p (x ∷ xs) = below_step xs (p x) (first_at p xs) (below_at p xs)

pub position_below : {A : Type 0} (p : A → Bool) (xs : List A) → IfSome (position p xs) (λ i. i < length xs)
position_below p xs = rw (position_is p xs) (below_at p xs)

some_step : (b c : Bool) (o : Option ℕ) → (b || c) ≡ true → (c ≡ true → IsSome o) → IsSome (cond b (Some 0) (option_map suc o))
some_step true c o e more = refl
some_step false c None e more = let n = more e in absurd cc
some_step false c (Some i) e more = refl

any_at : {A : Type 0} (p : A → Bool) (xs : List A) → list_any p xs ≡ true → IsSome (first_at p xs)
any_at p [] e = absurd cc
any_at p (x ∷ xs) e = some_step (p x) (list_any p xs) (first_at p xs) e (any_at p xs)

pub any_position : {A : Type 0} (p : A → Bool) (xs : List A) → list_any p xs ≡ true → IsSome (position p xs)
any_position p xs e = rw (position_is p xs) (any_at p xs e)
