-- The first line of a text.
use Rattle.std.proofs.Common.{◌≡◌, ◌≢◌, ℕ, zero, suc, ◌<◌, true, false, nat_eq, List, [], ◌∷◌, length, get_or, take, drop, refl, ap, arith}
use Rattle.std.specs.List.{onto_first}
use Rattle.std.proofs.lemmas.Bool.{false_from_ne_true}
use Rattle.cs_table.specs.Text.{lines_of}

pub one_line : (xs : List ℕ) → xs ≢ [] → ((k : ℕ) → k < length xs → nat_eq (get_or xs k 0) 10 ≡ true → ⊥) → lines_of xs ≡ xs ∷ []
unfolding lines_of
one_line [] some none = absurd (some refl)
one_line (x ∷ []) some none = let e : nat_eq x 10 ≡ false = false_from_ne_true (nat_eq x 10) (none 0 (omega arith)) in rw e refl
one_line (x ∷ y ∷ ys) some none =
    let e : nat_eq x 10 ≡ false = false_from_ne_true (nat_eq x 10) (none 0 (omega arith)) in
    rw e (ap (onto_first x) (one_line (y ∷ ys) (λ eq. cc) (λ k below is. none (suc k) (omega arith) is)))

pub line_at : (xs : List ℕ) (k : ℕ) → k < length xs → ((j : ℕ) → j < k → nat_eq (get_or xs j 0) 10 ≡ true → ⊥) → nat_eq (get_or xs k 0) 10 ≡ true → lines_of xs ≡ take k xs ∷ lines_of (drop (suc k) xs)
unfolding lines_of
line_at [] k below none is = absurd (omega arith)
line_at (x ∷ xs) zero below none is = rw is refl
line_at (x ∷ xs) (suc k) below none is =
    let e : nat_eq x 10 ≡ false = false_from_ne_true (nat_eq x 10) (none 0 (omega arith)) in
    rw e (ap (onto_first x) (line_at xs k (omega arith) (λ j lt at. none (suc j) (omega arith) at) is))

pub lines_of_nothing : lines_of [] ≡ []
unfolding lines_of
lines_of_nothing = refl
