use Rattle.std.proofs.Common.{◌≡◌, ℕ, zero, suc, ◌+◌, ◌-◌, ◌<◌, ◌++◌, List, [], ◌∷◌, Option, Some, None, refl, sym, ap, ◌∙◌, arith}
use Rattle.std.specs.List.{range_with_len}
use Rattle.cs_windows.specs.Windows.{day_minutes}
use Rattle.cs_history.specs.Lists.{below}
use Rattle.cs_theorem.proofs.Below.{below_range}
use Rattle.cs_theorem.specs.Faults.{or_else, first_of}

pub first_of-none : {A B : Type 0} (f : A → Option B) (xs : List A) → ((x : A) → f x ≡ None) → first_of f xs ≡ None
first_of-none f [] h = refl
first_of-none f (x ∷ xs) h = ap (λ o. or_else o (first_of f xs)) (h x) ∙ first_of-none f xs h

past : {A B : Type 0} (f : A → Option B) (xs ys : List A) (o : Option B) → (first_of f xs ≡ None → first_of f (xs ++ ys) ≡ first_of f ys) → or_else o (first_of f xs) ≡ None → or_else o (first_of f (xs ++ ys)) ≡ first_of f ys
past f xs ys None rest k = rest k
past f xs ys (Some y) rest k = cc

first_of-append : {A B : Type 0} (f : A → Option B) (xs ys : List A) → first_of f xs ≡ None → first_of f (xs ++ ys) ≡ first_of f ys
first_of-append f [] ys h = refl
first_of-append f (x ∷ xs) ys h = past f xs ys (f x) (first_of-append f xs ys) h

range_split : (a n k : ℕ) → range_with_len a (n + k) ≡ range_with_len a n ++ range_with_len (a + n) k
range_split a zero k = let e : 0 + k ≡ k = omega arith in let z : a ≡ a + 0 = omega arith in ap (range_with_len a) e ∙ ap (λ b. range_with_len b k) z
range_split a (suc n) k =
    let e : suc n + k ≡ suc (n + k) = omega arith in
    let z : (a + 1) + n ≡ a + suc n = omega arith in
    ap (range_with_len a) e ∙ ap (λ xs. a ∷ xs) (range_split (a + 1) n k) ∙ ap (λ b. (a ∷ range_with_len (a + 1) n) ++ range_with_len b k) z

pub first_of-found : {B : Type 0} (f : ℕ → Option B) (n m : ℕ) (y : B) → n < m → first_of f (range_with_len 0 n) ≡ None → f n ≡ Some y → first_of f (range_with_len 0 m) ≡ Some y
first_of-found f n m y lt h k =
    let e : m ≡ n + suc (m - n - 1) = omega arith in
    ap (λ j. first_of f (range_with_len 0 j)) e ∙ ap (first_of f) (range_split 0 n (suc (m - n - 1)))
    ∙ first_of-append f (range_with_len 0 n) (range_with_len (0 + n) (suc (m - n - 1))) h
    ∙ (let z : 0 + n ≡ n = omega arith in ap (λ j. or_else (f j) (first_of f (range_with_len ((0 + n) + 1) (m - n - 1)))) z)
    ∙ ap (λ o. or_else o (first_of f (range_with_len ((0 + n) + 1) (m - n - 1)))) k

pub first_of-more : {B : Type 0} (f : ℕ → Option B) (n : ℕ) → first_of f (range_with_len 0 n) ≡ None → f n ≡ None → first_of f (range_with_len 0 (n + 1)) ≡ None
first_of-more f n h k =
    ap (first_of f) (range_split 0 n 1) ∙ first_of-append f (range_with_len 0 n) (range_with_len (0 + n) 1) h
    ∙ (let z : 0 + n ≡ n = omega arith in ap (λ j. or_else (f j) None) z) ∙ ap (λ o. or_else o None) k

pub minute-found : {B : Type 0} (f : ℕ → Option B) (n : ℕ) (y : B) → n < 1440 → first_of f (range_with_len 0 n) ≡ None → f n ≡ Some y → first_of f day_minutes ≡ Some y
unfolding day_minutes
minute-found f n y lt h k = first_of-found f n 1440 y lt h k

pub minutes-none : {B : Type 0} (f : ℕ → Option B) (n : ℕ) → n ≡ 1440 → first_of f (range_with_len 0 n) ≡ None → first_of f day_minutes ≡ None
unfolding day_minutes
minutes-none f n e h = ap (λ j. first_of f (range_with_len 0 j)) (sym e) ∙ h

pub below-found : {B : Type 0} (f : ℕ → Option B) (n m : ℕ) (y : B) → n < m → first_of f (range_with_len 0 n) ≡ None → f n ≡ Some y → first_of f (below m) ≡ Some y
below-found f n m y lt h k = ap (first_of f) (below_range m) ∙ first_of-found f n m y lt h k

pub below-none : {B : Type 0} (f : ℕ → Option B) (n : ℕ) → first_of f (range_with_len 0 n) ≡ None → first_of f (below n) ≡ None
below-none f n h = ap (first_of f) (below_range n) ∙ h
