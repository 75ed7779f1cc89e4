-- Tests that one element of a list passes.
use Rattle.std.proofs.Common.{◌≡◌, ℕ, zero, suc, ◌+◌, ◌<◌, ◌≤◌, List, [], ◌∷◌, ◌++◌, Bool, true, false, ◌||◌, cond, map, length, get_or, Some, None, refl, sym, ◌∙◌, arith}
use Rattle.std.specs.Prelude.{All, Contains}
use Rattle.std.specs.List.{list_any, find, count_by}
use Rattle.std.proofs.lemmas.List.Elements.{All-nil, All-cons, All-head, All-tail, All-weaker}
use Rattle.std.proofs.lemmas.List.Sums.{sum_by-cons}
use Rattle.cs_decl.specs.Faults.{first_again}
use Rattle.cs_decl.proofs.Texts.{any_push}

pub or_none : (a b : Bool) → (a || b) ≡ false → (a ≡ false) × (b ≡ false)
or_none false b e = (refl, e)
or_none true b e = absurd cc

pub none_pass : {A : Type 0} (p : A → Bool) (xs : List A) → list_any p xs ≡ false → All (λ x. p x ≡ false) xs
none_pass p [] e = All-nil (λ x. p x ≡ false)
none_pass p (x ∷ xs) e = let q = or_none (p x) (list_any p xs) e in All-cons (λ y. p y ≡ false) x xs q.0 (none_pass p xs q.1)

pub any_map : {A B : Type 0} (f : A → B) (p : B → Bool) (xs : List A) → list_any p (map f xs) ≡ list_any (λ x. p (f x)) xs
any_map f p [] = refl
any_map f p (x ∷ xs) = rw (any_map f p xs) refl

further : {A : Type 0} (x y : A) (xs : List A) → Contains xs y → Contains (x ∷ xs) y
further x y xs (k, below, is) = (suc k, omega (arith, below), is)

abbrev Passes : {A : Type 0} → (A → Bool) → List A → Type 0
Passes {A} p xs = (x : A) × Contains xs x × (p x ≡ true)

passing_step : {A : Type 0} (p : A → Bool) (x : A) (xs : List A) (b : Bool) → p x ≡ b → (b || list_any p xs) ≡ true → (list_any p xs ≡ true → Passes p xs) → Passes p (x ∷ xs)
passing_step p x xs true is e more = (x, (0, omega arith, refl), is)
passing_step p x xs false is e more = let later = more e in (later.0, further x later.0 xs later.1, later.2)

pub passing : {A : Type 0} (p : A → Bool) (xs : List A) → list_any p xs ≡ true → (x : A) × Contains xs x × (p x ≡ true)
passing p [] e = absurd cc
passing p (x ∷ xs) e = passing_step p x xs (p x) refl e (passing p xs)

found_step : {A : Type 0} (p : A → Bool) (y : A) (ys : List A) (x : A) (b : Bool) → p y ≡ b → cond b (Some y) (find p ys) ≡ Some x → (find p ys ≡ Some x → Contains ys x × (p x ≡ true)) → Contains (y ∷ ys) x × (p x ≡ true)
found_step p y ys x true is e more = let same : y ≡ x = cc in rw (← same) ((0, omega arith, refl), is)
found_step p y ys x false is e more = let later = more e in (further y x ys later.0, later.1)

pub found_there : {A : Type 0} (p : A → Bool) (xs : List A) (x : A) → find p xs ≡ Some x → Contains xs x × (p x ≡ true)
found_there p [] x e = absurd cc
found_there p (y ∷ ys) x e = found_step p y ys x (p y) refl e (found_there p ys x)

count_cons : {A : Type 0} (p : A → Bool) (x : A) (xs : List A) → count_by p (x ∷ xs) ≡ cond (p x) 1 0 + count_by p xs
count_cons p x xs = sum_by-cons (λ y. cond (p y) 1 0) x xs

counted_first : {A : Type 0} (p : A → Bool) (x : A) (xs : List A) → p x ≡ true → count_by p (x ∷ xs) ≡ 1 + count_by p xs
counted_first p x xs is = count_cons p x xs ∙ rw is refl

passed_first : {A : Type 0} (p : A → Bool) (x : A) (xs : List A) → p x ≡ false → count_by p (x ∷ xs) ≡ 0 + count_by p xs
passed_first p x xs is = count_cons p x xs ∙ rw is refl

pub count_none : {A : Type 0} (p : A → Bool) (xs : List A) → All (λ x. p x ≡ false) xs → count_by p xs ≡ 0
count_none p [] each = refl
count_none p (x ∷ xs) each = omega (arith, passed_first p x xs (All-head (λ y. p y ≡ false) x xs each), count_none p xs (All-tail (λ y. p y ≡ false) x xs each))

pub one_at : {A : Type 0} (p : A → Bool) (xs : List A) (k : ℕ) (d : A) → k < length xs → p (get_or xs k d) ≡ true → 1 ≤ count_by p xs
one_at p [] k d below passes = absurd (omega (arith, below))
one_at p (x ∷ xs) zero d below passes = omega (arith, counted_first p x xs passes)
one_at p (x ∷ xs) (suc k) d below passes = omega (arith, count_cons p x xs, one_at p xs k d (omega (arith, below)) passes)

pub at_least_one : {A : Type 0} (p : A → Bool) (xs : List A) → list_any p xs ≡ true → 1 ≤ count_by p xs
at_least_one p xs e = let some = passing p xs e in let is = some.1.2 in one_at p xs some.1.0 some.0 some.1.1 (rw is some.2)

once_step : {A : Type 0} (p : A → Bool) (x : A) (xs : List A) (k : ℕ) (d : A) (b : Bool) → p x ≡ b → count_by p (x ∷ xs) ≤ 1 → 1 ≤ count_by p xs → (count_by p xs ≤ 1 → find p xs ≡ Some (get_or xs k d)) → cond b (Some x) (find p xs) ≡ Some (get_or xs k d)
once_step p x xs k d true is once some more = absurd (omega (arith, once, some, counted_first p x xs is))
once_step p x xs k d false is once some more = more (omega (arith, once, passed_first p x xs is))

-- where at most one passes, that one is found
pub found_once : {A : Type 0} (p : A → Bool) (xs : List A) (k : ℕ) (d : A) → count_by p xs ≤ 1 → k < length xs → p (get_or xs k d) ≡ true → find p xs ≡ Some (get_or xs k d)
found_once p [] k d once below passes = absurd (omega (arith, below))
found_once p (x ∷ xs) zero d once below passes = rw passes refl
found_once p (x ∷ xs) (suc k) d once below passes =
    once_step p x xs k d (p x) refl once (one_at p xs k d (omega (arith, below)) passes) (λ one. found_once p xs k d one (omega (arith, below)) passes)

apart_step : {A B : Type 0} (same : B → B → Bool) (f : A → B) (before : List B) (i : ℕ) (x : A) (xs : List A) (b : Bool) → list_any (same (f x)) before ≡ b → cond b (Some i) (first_again same (before ++ f x ∷ []) (i + 1) (map f xs)) ≡ None
    → (first_again same (before ++ f x ∷ []) (i + 1) (map f xs) ≡ None → All (λ y. list_any (same (f y)) (before ++ f x ∷ []) ≡ false) xs) → All (λ y. list_any (same (f y)) before ≡ false) (x ∷ xs)
apart_step same f before i x xs true is e more = absurd cc
apart_step same f before i x xs false is e more =
    All-cons (λ y. list_any (same (f y)) before ≡ false) x xs is
    (All-weaker (λ y. list_any (same (f y)) (before ++ f x ∷ []) ≡ false) (λ y. list_any (same (f y)) before ≡ false) (λ y h. (or_none _ _ (sym (any_push (same (f y)) before (f x)) ∙ h)).0) xs (more e))

-- where none comes again, none is like one of `before`
pub apart : {A B : Type 0} (same : B → B → Bool) (f : A → B) (before : List B) (i : ℕ) (xs : List A) → first_again same before i (map f xs) ≡ None → All (λ x. list_any (same (f x)) before ≡ false) xs
apart same f before i [] e = All-nil (λ x. list_any (same (f x)) before ≡ false)
apart same f before i (x ∷ xs) e = apart_step same f before i x xs (list_any (same (f x)) before) refl e (apart same f (before ++ f x ∷ []) (i + 1) xs)
