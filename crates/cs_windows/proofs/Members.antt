use Rattle.std.proofs.Common.{ℕ, zero, suc, ◌+◌, ◌<◌, ◌≤◌, ◌≡◌, Bool, true, false, cond, List, [], ◌∷◌, ◌++◌, filter, Contains, refl, sym, ap, ◌∙◌, subst, arith, inl, inr, ⊎_elim, ◌⊎◌}
use Rattle.std.specs.Prelude.{flat_map}
use Rattle.std.specs.List.{range_with_len}
use Rattle.std.proofs.lemmas.Bool.{both_ways, cases_eq}

abbrev pub Has : {X : Type 0} → List X → X → Type 0
Has [] x = ⊥
Has (y ∷ ys) x = (y ≡ x) ⊎ Has ys x

pub has_contains : {X : Type 0} (xs : List X) (x : X) → Has xs x → Contains xs x
has_contains [] x h = absurd h
has_contains (y ∷ ys) x (inl e) = (zero, omega arith, e)
has_contains (y ∷ ys) x (inr h) = let c = has_contains ys x h in (suc c.0, omega (arith, c.1), c.2)

at_place : {X : Type 0} (xs : List X) (x : X) (k : ℕ) → (c : Contains xs x) → c.0 ≡ k → Has xs x
at_place [] x k c e = absurd (omega (arith, c.1))
at_place (y ∷ ys) x zero (zero, l, q) e = inl q
at_place (y ∷ ys) x zero (suc i, l, q) e = absurd (omega (arith, e))
at_place (y ∷ ys) x (suc k) (zero, l, q) e = absurd (omega (arith, e))
at_place (y ∷ ys) x (suc k) (suc i, l, q) e = inr (at_place ys x k (i, omega (arith, l), q) (omega (arith, e)))

pub contains_has : {X : Type 0} (xs : List X) (x : X) → Contains xs x → Has xs x
contains_has xs x c = at_place xs x c.0 c refl

pub has_left : {X : Type 0} (xs ys : List X) (x : X) → Has xs x → Has (xs ++ ys) x
has_left [] ys x h = absurd h
has_left (z ∷ xs) ys x (inl e) = inl e
has_left (z ∷ xs) ys x (inr h) = inr (has_left xs ys x h)

pub has_right : {X : Type 0} (xs ys : List X) (x : X) → Has ys x → Has (xs ++ ys) x
has_right [] ys x h = h
has_right (z ∷ xs) ys x h = inr (has_right xs ys x h)

pub has_cases : {X : Type 0} (xs ys : List X) (x : X) → Has (xs ++ ys) x → Has xs x ⊎ Has ys x
has_cases [] ys x h = inr h
has_cases (z ∷ xs) ys x (inl e) = inl (inl e)
has_cases (z ∷ xs) ys x (inr h) = ⊎_elim (λ (k : Has xs x). inl (inr k)) (λ (k : Has ys x). inr k) (has_cases xs ys x h)

keep_step : {X : Type 0} (t : X → Bool) (y : X) (ys : List X) (x : X) → t x ≡ true → (y ≡ x) ⊎ Has (filter t ys) x → (b : Bool) → t y ≡ b → Has (cond b (y ∷ filter t ys) (filter t ys)) x
keep_step t y ys x e h true q = h
keep_step t y ys x e (inl i) false q = absurd (both_ways (t y) q (ap t i ∙ e))
keep_step t y ys x e (inr h) false q = h

pub has_filter : {X : Type 0} (t : X → Bool) (xs : List X) (x : X) → Has xs x → t x ≡ true → Has (filter t xs) x
has_filter t [] x h e = h
has_filter t (y ∷ ys) x (inl i) e = keep_step t y ys x e (inl i) (t y) refl
has_filter t (y ∷ ys) x (inr h) e = keep_step t y ys x e (inr (has_filter t ys x h e)) (t y) refl

back_step : {X : Type 0} (t : X → Bool) (y : X) (ys : List X) (x : X) → (Has (filter t ys) x → Has ys x × (t x ≡ true)) → (b : Bool) → t y ≡ b → Has (cond b (y ∷ filter t ys) (filter t ys)) x → ((y ≡ x) ⊎ Has ys x) × (t x ≡ true)
back_step t y ys x ih true q (inl i) = (inl i, sym (ap t i) ∙ q)
back_step t y ys x ih true q (inr h) = (inr (ih h).0, (ih h).1)
back_step t y ys x ih false q h = (inr (ih h).0, (ih h).1)

pub filter_has : {X : Type 0} (t : X → Bool) (xs : List X) (x : X) → Has (filter t xs) x → Has xs x × (t x ≡ true)
filter_has t [] x h = absurd h
filter_has t (y ∷ ys) x h = back_step t y ys x (filter_has t ys x) (t y) refl h

pub has_flat : {X Y : Type 0} (f : X → List Y) (xs : List X) (x : X) (y : Y) → Has xs x → Has (f x) y → Has (flat_map f xs) y
has_flat f [] x y h k = absurd h
has_flat f (z ∷ xs) x y (inl e) k = has_left (f z) (flat_map f xs) y (subst (λ (w : _). Has (f w) y) (sym e) k)
has_flat f (z ∷ xs) x y (inr h) k = has_right (f z) (flat_map f xs) y (has_flat f xs x y h k)

pub flat_has : {X Y : Type 0} (f : X → List Y) (xs : List X) (y : Y) → Has (flat_map f xs) y → (x : X) × Has xs x × Has (f x) y
flat_has f [] y h = absurd h
flat_has f (z ∷ xs) y h = flat_step f z xs y (has_cases (f z) (flat_map f xs) y h) (flat_has f xs y)
  where
    flat_step : {X Y : Type 0} (f : X → List Y) (z : X) (xs : List X) (y : Y) → Has (f z) y ⊎ Has (flat_map f xs) y → (Has (flat_map f xs) y → (x : X) × Has xs x × Has (f x) y) → (x : X) × Has (z ∷ xs) x × Has (f x) y
    flat_step f z xs y (inl k) ih = (z, inl refl, k)
    flat_step f z xs y (inr k) ih = let r = ih k in (r.0, inr r.1, r.2)

pub has_range : (a n m : ℕ) → a ≤ m → m < a + n → Has (range_with_len a n) m
has_range a zero m l k = absurd (omega (arith, l, k))
has_range a (suc n) m l k = ⊎_elim (λ (e : a ≡ m). inl e) (λ (e : a ≡ m → ⊥). inr (has_range (a + 1) n m (omega (arith, l, e)) (omega (arith, k)))) (cases_eq a m)

pub range_has : (a n m : ℕ) → Has (range_with_len a n) m → (a ≤ m) × (m < a + n)
range_has a zero m h = absurd h
range_has a (suc n) m (inl e) = (omega (arith, e), omega (arith, e))
range_has a (suc n) m (inr h) = let r = range_has (a + 1) n m h in (omega (arith, r.0), omega (arith, r.1))
