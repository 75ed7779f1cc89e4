-- Lemmas on lists.
use Rattle.std.proofs.Common.{ℕ, zero, suc, ◌+◌, ◌<◌, ◌≤◌, ◌≡◌, max, Bool, true, false, not, ◌&&◌, ◌||◌, cond, if◌then◌else◌, List, [], ◌∷◌, ◌++◌, map, filter, refl, sym, ap, ◌∙◌, arith, inl, inr, ⊎_elim, ◌⊎◌}
use Rattle.std.specs.List.{AllByRecursion, list_any}
use Rattle.std.proofs.lemmas.Bool.{cond_both, cases_lt, cases_eq, or_parts, or_cases}
use Rattle.cs_history.specs.Lists.{total, greatest, EachPair, below}

abbrev pub one : Bool → ℕ
one b = if b then 1 else 0

-- All

pub all_map : {X : Type 0} (P Q : X → Type 0) (xs : List X) → ((x : X) → P x → Q x) → AllByRecursion P xs → AllByRecursion Q xs
all_map P Q [] h a = tt
all_map P Q (x ∷ xs) h a = (h x a.0, all_map P Q xs h a.1)

pub all_zip : {X : Type 0} (P R Q : X → Type 0) (xs : List X) → ((x : X) → P x → R x → Q x) → AllByRecursion P xs → AllByRecursion R xs → AllByRecursion Q xs
all_zip P R Q [] h a b = tt
all_zip P R Q (x ∷ xs) h a b = (h x a.0 b.0, all_zip P R Q xs h a.1 b.1)

pub all_any : {X : Type 0} (P : X → Type 0) (xs : List X) → ((x : X) → P x) → AllByRecursion P xs
all_any P [] h = tt
all_any P (x ∷ xs) h = (h x, all_any P xs h)

pub all_push : {X : Type 0} (P : X → Type 0) (xs : List X) (y : X) → AllByRecursion P xs → P y → AllByRecursion P (xs ++ y ∷ [])
all_push P [] y a p = (p, tt)
all_push P (x ∷ xs) y a p = (a.0, all_push P xs y a.1 p)

pub all-filter : {X : Type 0} (P : X → Type 0) (t : X → Bool) (xs : List X) → AllByRecursion P xs → AllByRecursion P (filter t xs)
all-filter P t [] a = tt
all-filter {X} P t (x ∷ xs) a =
    let ih = all-filter P t xs a.1 in
    cond_both (t x) (x ∷ filter t xs) (filter t xs) (λ (ys : List X). AllByRecursion P ys) (λ _. (a.0, ih)) (λ _. ih)

pub all_passes : {X : Type 0} (t : X → Bool) (xs : List X) → AllByRecursion (λ x. t x ≡ true) (filter t xs)
all_passes t [] = tt
all_passes {X} t (x ∷ xs) =
    let ih = all_passes t xs in
    cond_both (t x) (x ∷ filter t xs) (filter t xs) (λ (ys : List X). AllByRecursion (λ y. t y ≡ true) ys) (λ e. (e, ih)) (λ _. ih)

pub all-map : {X Y : Type 0} (P : Y → Type 0) (f : X → Y) (xs : List X) → AllByRecursion (λ x. P (f x)) xs → AllByRecursion P (map f xs)
all-map P f [] a = tt
all-map P f (x ∷ xs) a = (a.0, all-map P f xs a.1)

pub none_passes : {X : Type 0} (t : X → Bool) (xs : List X) → list_any t xs ≡ false → AllByRecursion (λ x. t x ≡ false) xs
none_passes t [] e = tt
none_passes t (x ∷ xs) e = let h = or_parts (t x) (list_any t xs) e in (h.0, none_passes t xs h.1)

either_false : (a b : Bool) → a ≡ false → b ≡ false → (a || b) ≡ false
either_false a b p q = ap (λ x. x || b) p ∙ q

pub none_pass : {X : Type 0} (t : X → Bool) (xs : List X) → AllByRecursion (λ x. t x ≡ false) xs → list_any t xs ≡ false
none_pass t [] a = refl
none_pass t (x ∷ xs) a = either_false (t x) (list_any t xs) a.0 (none_pass t xs a.1)

-- what holds of each holds of one that passes
pub any_at : {X : Type 0} (t : X → Bool) (P : X → Type 0) (xs : List X) → list_any t xs ≡ true → AllByRecursion P xs → (x : X) × (t x ≡ true) × P x
any_at t P [] e a = absurd (cc)
any_at {X} t P (x ∷ xs) e a =
    ⊎_elim (λ h. (x, h, a.0)) (λ h. any_at t P xs h a.1) (or_cases (t x) (list_any t xs) e)

pub all_below : (n : ℕ) → AllByRecursion (λ j. j < n) (below n)
all_below zero = tt
all_below (suc n) = all_push (λ j. j < suc n) (below n) n (all_map (λ j. j < n) (λ j. j < suc n) (below n) (λ j l. omega (arith, l)) (all_below n)) (omega arith)

-- pairs

pub pairs_map : {X : Type 0} (P : X → Type 0) (R Q : X → X → Type 0) (xs : List X) → ((x y : X) → P x → P y → R x y → Q x y) → AllByRecursion P xs → EachPair R xs → EachPair Q xs
pairs_map P R Q [] h a r = tt
pairs_map P R Q (x ∷ xs) h a r = (all_zip P (R x) (Q x) xs (λ y p q. h x y a.0 p q) a.1 r.0, pairs_map P R Q xs h a.1 r.1)

pub pairs_zip : {X : Type 0} (R S : X → X → Type 0) (xs : List X) → EachPair R xs → EachPair S xs → EachPair (λ x y. R x y × S x y) xs
pairs_zip R S [] a b = tt
pairs_zip R S (x ∷ xs) a b = (all_zip (R x) (S x) (λ y. R x y × S x y) xs (λ y p q. (p, q)) a.0 b.0, pairs_zip R S xs a.1 b.1)

pub pairs_push : {X : Type 0} (R : X → X → Type 0) (xs : List X) (y : X) → EachPair R xs → AllByRecursion (λ x. R x y) xs → EachPair R (xs ++ y ∷ [])
pairs_push R [] y a p = (tt, tt)
pairs_push R (x ∷ xs) y a p = (all_push (R x) xs y a.0 p.0, pairs_push R xs y a.1 p.1)

pub pairs-filter : {X : Type 0} (R : X → X → Type 0) (t : X → Bool) (xs : List X) → EachPair R xs → EachPair R (filter t xs)
pairs-filter R t [] a = tt
pairs-filter {X} R t (x ∷ xs) a =
    let ih = pairs-filter R t xs a.1 in
    cond_both (t x) (x ∷ filter t xs) (filter t xs) (λ (ys : List X). EachPair R ys) (λ _. (all-filter (R x) t xs a.0, ih)) (λ _. ih)

pub pairs-map : {X Y : Type 0} (R : Y → Y → Type 0) (f : X → Y) (xs : List X) → EachPair (λ x y. R (f x) (f y)) xs → EachPair R (map f xs)
pairs-map R f [] a = tt
pairs-map R f (x ∷ xs) a = (all-map (R (f x)) f xs a.0, pairs-map R f xs a.1)

-- totals

pub total_push : {X : Type 0} (f : X → ℕ) (xs : List X) (y : X) → total f (xs ++ y ∷ []) ≡ total f xs + f y
total_push f [] y = omega arith
total_push f (x ∷ xs) y = omega (arith, total_push f xs y)

pub total-filter : {X : Type 0} (t : X → Bool) (f : X → ℕ) (xs : List X) → total f (filter t xs) ≤ total f xs
total-filter t f [] = omega arith
total-filter {X} t f (x ∷ xs) =
    let ih = total-filter t f xs in
    cond_both (t x) (x ∷ filter t xs) (filter t xs) (λ (ys : List X). total f ys ≤ f x + total f xs) (λ _. omega (arith, ih)) (λ _. omega (arith, ih))

without_step : {X : Type 0} (t : X → Bool) (f : X → ℕ) (m : ℕ) (x : X) (xs : List X) → (t x ≡ true → m ≤ f x) → (list_any t xs ≡ true → total f (filter (λ y. not (t y)) xs) + m ≤ total f xs) → (s : Bool) → t x ≡ s → (s || list_any t xs) ≡ true → total f (cond (not s) (x ∷ filter (λ y. not (t y)) xs) (filter (λ y. not (t y)) xs)) + m ≤ f x + total f xs
without_step t f m x xs big ih true s h = omega (arith, big s, total-filter (λ y. not (t y)) f xs)
without_step t f m x xs big ih false s h = omega (arith, ih h)

-- without those that pass, of which there is one, the total is less by m at least
pub total_without : {X : Type 0} (t : X → Bool) (f : X → ℕ) (m : ℕ) (xs : List X) → ((x : X) → t x ≡ true → m ≤ f x) → list_any t xs ≡ true → total f (filter (λ x. not (t x)) xs) + m ≤ total f xs
total_without t f m [] big e = absurd (cc)
total_without t f m (x ∷ xs) big e = without_step t f m x xs (big x) (total_without t f m xs big) (t x) refl e

pub total_le : {X : Type 0} (f g : X → ℕ) (xs : List X) → AllByRecursion (λ x. f x ≤ g x) xs → total f xs ≤ total g xs
total_le f g [] a = omega arith
total_le f g (x ∷ xs) a = omega (arith, a.0, total_le f g xs a.1)

pub total_zero : {X : Type 0} (f : X → ℕ) (xs : List X) → AllByRecursion (λ x. f x ≡ 0) xs → total f xs ≡ 0
total_zero f [] a = refl
total_zero f (x ∷ xs) a = omega (arith, a.0, total_zero f xs a.1)

pub greatest_at : {X : Type 0} (f : X → ℕ) (xs : List X) → AllByRecursion (λ x. f x ≤ greatest f xs) xs
greatest_at f [] = tt
greatest_at f (x ∷ xs) = (omega arith, all_map (λ y. f y ≤ greatest f xs) (λ y. f y ≤ max (f x) (greatest f xs)) xs (λ y l. omega (arith, l)) (greatest_at f xs))

pub total-map : {X Y : Type 0} (f : Y → ℕ) (h : X → Y) (xs : List X) → total f (map h xs) ≡ total (λ x. f (h x)) xs
total-map f h [] = refl
total-map f h (x ∷ xs) = ap (λ n. f (h x) + n) (total-map f h xs)

pub greatest-map : {X Y : Type 0} (f : Y → ℕ) (h : X → Y) (xs : List X) → greatest f (map h xs) ≡ greatest (λ x. f (h x)) xs
greatest-map f h [] = refl
greatest-map f h (x ∷ xs) = ap (λ n. max (f (h x)) n) (greatest-map f h xs)

pub total_sum : {X : Type 0} (f g : X → ℕ) (xs : List X) → total (λ x. f x + g x) xs ≡ total f xs + total g xs
total_sum f g [] = omega arith
total_sum f g (x ∷ xs) = omega (arith, total_sum f g xs)

pub total_swap : {X Y : Type 0} (f : X → Y → ℕ) (xs : List X) (ys : List Y) → total (λ x. total (f x) ys) xs ≡ total (λ y. total (λ x. f x y) xs) ys
total_swap f [] ys = sym (total_zero (λ y. 0) ys (all_any (λ y. 0 ≡ 0) ys (λ _. refl)))
total_swap f (x ∷ xs) ys = ap (λ n. total (f x) ys + n) (total_swap f xs ys) ∙ sym (total_sum (f x) (λ y. total (λ x. f x y) xs) ys)

pub term_below : (f : ℕ → ℕ) (n k : ℕ) → k < n → f k ≤ total f (below n)
term_below f zero k l = absurd (omega arith)
term_below f (suc n) k l =
    let e = total_push f (below n) n in
    ⊎_elim (λ (h : k ≡ n). let g : f k ≡ f n = ap f h in omega (arith, e, g)) (λ (h : k < n). omega (arith, e, term_below f n k h)) (last n k l)
  where
    last : (n k : ℕ) → k < suc n → (k ≡ n) ⊎ (k < n)
    last n k l = ⊎_elim (λ h. inr h) (λ h. inl (omega (arith, h, l))) (cases_lt k n)

-- If any two that pass t both pass s, then at most one passes t, or all that do pass s.
alone : (a c : Bool) → ((a && true) && not (c && false)) ≡ false → a ≡ false
alone true true e = absurd (cc)
alone true false e = absurd (cc)
alone false c e = refl

beside_shared : (a c : Bool) (n : ℕ) → ((a && true) && not (c && true)) ≡ false → (if a then n else 0) ≤ (if a && c then n else 0)
beside_shared true true n e = omega arith
beside_shared true false n e = absurd (cc)
beside_shared false c n e = omega arith

module _ {X : Type 0} (t s : X → Bool) (f : X → ℕ) where
  abbrev pub held : X → ℕ
  held x = if t x then f x else 0

  abbrev pub held_alone : X → ℕ
  held_alone x = if t x && not (s x) then f x else 0

  abbrev pub held_shared : X → ℕ
  held_shared x = if t x && s x then f x else 0

  holders_step : (x : X) (xs : List X) (a c : Bool) → AllByRecursion (λ y. ((t y && a) && not (s y && c)) ≡ false) xs → (total held xs ≤ greatest held_alone xs) ⊎ (total held xs ≤ total held_shared xs)
      → ((if a then f x else 0) + total held xs ≤ max (if a && not c then f x else 0) (greatest held_alone xs)) ⊎ ((if a then f x else 0) + total held xs ≤ (if a && c then f x else 0) + total held_shared xs)
  holders_step x xs false c p ih = ⊎_elim (λ (h : total held xs ≤ greatest held_alone xs). inl (omega (arith, h))) (λ (h : total held xs ≤ total held_shared xs). inr (omega (arith, h))) ih
  holders_step x xs true true p ih =
      let h : total held xs ≤ total held_shared xs = total_le held held_shared xs (all_map (λ y. ((t y && true) && not (s y && true)) ≡ false) (λ y. held y ≤ held_shared y) xs (λ y e. beside_shared (t y) (s y) (f y) e) p) in
      inr (omega (arith, h))
  holders_step x xs true false p ih =
      let h : total held xs ≡ 0 = total_zero held xs (all_map (λ y. ((t y && true) && not (s y && false)) ≡ false) (λ y. held y ≡ 0) xs (λ y e. ap (λ (b : Bool). if b then f y else 0) (alone (t y) (s y) e)) p) in
      inl (omega (arith, h))

  holders : (xs : List X) → EachPair (λ x y. ((t y && t x) && not (s y && s x)) ≡ false) xs → (total held xs ≤ greatest held_alone xs) ⊎ (total held xs ≤ total held_shared xs)
  holders [] a = inl (omega arith)
  holders (x ∷ xs) a = holders_step x xs (t x) (s x) a.0 (holders xs a.1)

  pub holders_total : (xs : List X) → EachPair (λ x y. ((t y && t x) && not (s y && s x)) ≡ false) xs → total held xs ≤ max (greatest held_alone xs) (total held_shared xs)
  holders_total xs a = ⊎_elim (λ (h : total held xs ≤ greatest held_alone xs). omega (arith, h)) (λ (h : total held xs ≤ total held_shared xs). omega (arith, h)) (holders xs a)

lone_step : {X : Type 0} (t : X → Bool) (f : X → ℕ) (x : X) (xs : List X) (a : Bool) → AllByRecursion (λ y. (t y && a) ≡ false) xs → total (λ y. if t y then f y else 0) xs ≤ greatest (λ y. if t y then f y else 0) xs
    → (if a then f x else 0) + total (λ y. if t y then f y else 0) xs ≤ max (if a then f x else 0) (greatest (λ y. if t y then f y else 0) xs)
lone_step t f x xs false p ih = omega (arith, ih)
lone_step {X} t f x xs true p ih =
    let h : total (λ (y : X). if t y then f y else 0) xs ≡ 0 = total_zero (λ (y : X). if t y then f y else 0) xs (all_map (λ y. (t y && true) ≡ false) (λ y. (if t y then f y else 0) ≡ 0) xs (λ y e. ap (λ (b : Bool). if b then f y else 0) (only (t y) e)) p) in
    omega (arith, h)
  where
    only : (b : Bool) → (b && true) ≡ false → b ≡ false
    only true e = e
    only false e = refl

pub lone_total : {X : Type 0} (t : X → Bool) (f : X → ℕ) (xs : List X) → EachPair (λ x y. (t y && t x) ≡ false) xs → total (λ x. if t x then f x else 0) xs ≤ greatest (λ x. if t x then f x else 0) xs
lone_total t f [] a = omega arith
lone_total t f (x ∷ xs) a = lone_step t f x xs (t x) a.0 (lone_total t f xs a.1)

pub all_terms : {X : Type 0} (f : ℕ → X → ℕ) (xs : List X) → AllByRecursion (λ x. (g : ℕ) → f g x ≤ total (f g) xs) xs
all_terms f [] = tt
all_terms f (x ∷ xs) = (λ g. omega arith, all_map (λ y. (g : ℕ) → f g y ≤ total (f g) xs) (λ y. (g : ℕ) → f g y ≤ f g x + total (f g) xs) xs (λ y l g. omega (arith, l g)) (all_terms f xs))

-- if f is at most 1 at k and 0 elsewhere, the sum below any number is at most 1
pub once_below : (f : ℕ → ℕ) (k : ℕ) → ((j : ℕ) → (j ≡ k → ⊥) → f j ≡ 0) → f k ≤ 1 → (m : ℕ) → (total f (below m) ≤ 1) × (m ≤ k → total f (below m) ≡ 0)
once_below f k other at zero = (omega arith, λ _. refl)
once_below f k other at (suc m) =
    let ih = once_below f k other at m in
    let e = total_push f (below m) m in (
      ⊎_elim (λ (h : m < k). let z : f m ≡ 0 = other m (λ q. omega (arith, h, q)) in omega (arith, e, z, ih.0))
          (λ (h : k ≤ m). ⊎_elim (λ (q : m ≡ k). let z : f m ≡ f k = ap f q in omega (arith, e, z, at, ih.1 (omega (arith, q)))) (λ (q : m ≡ k → ⊥). omega (arith, e, other m q, ih.0)) (cases_eq m k)) (cases_lt m k),
      λ l. let z : f m ≡ 0 = other m (λ q. omega (arith, l, q)) in omega (arith, e, z, ih.1 (omega (arith, l))),
    )
