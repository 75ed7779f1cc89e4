-- The next quote of a text, and the blanks at its end.
use Rattle.std.proofs.Common.{◌≡◌, ℕ, zero, suc, ◌+◌, ◌-◌, ◌<◌, ◌≤◌, Bool, true, false, cond, ◌&&◌, nat_eq, List, [], ◌∷◌, ◌++◌, length, get_or, take, drop, Some, None, refl, sym, ap, ◌∙◌, arith}
use Rattle.std.specs.List.{list_all}
use Rattle.std.proofs.lemmas.Bool.{false_from_ne_true}
use Rattle.std.proofs.lemmas.List.{take_more, take_all, length-drop}
use Rattle.std.proofs.lemmas.List.Folds.{list_all-append}
use Rattle.cs_table.specs.Text.{front, after, is_blank}
use Rattle.cs_table.specs.SettingReading.{is_other, quoted_at, trimmed}

upto_quote : (q : ℕ) (xs : List ℕ) (k : ℕ) → k < length xs → ((j : ℕ) → j < k → nat_eq (get_or xs j 0) q ≡ true → ⊥) → nat_eq (get_or xs k 0) q ≡ true
    → (front (is_other q) xs ≡ take k xs) × (after (is_other q) xs ≡ get_or xs k 0 ∷ drop (suc k) xs)
unfolding front after
upto_quote q [] k below none is = absurd (omega arith)
upto_quote q (x ∷ xs) zero below none is = rw is (refl, refl)
upto_quote q (x ∷ xs) (suc k) below none is =
    let e : nat_eq x q ≡ false = false_from_ne_true (nat_eq x q) (none 0 (omega arith)) in
    let more = upto_quote q xs k (omega arith) (λ j lt at. none (suc j) (omega arith) at) is in
    rw e (ap (λ (l : List ℕ). x ∷ l) more.0, more.1)

pub quote_at : (q : ℕ) (xs : List ℕ) (k : ℕ) → k < length xs → ((j : ℕ) → j < k → nat_eq (get_or xs j 0) q ≡ true → ⊥) → nat_eq (get_or xs k 0) q ≡ true → quoted_at q xs ≡ Some (take k xs, drop (suc k) xs)
unfolding quoted_at
quote_at q xs k below none is = let parts = upto_quote q xs k below none is in rw (parts.0, parts.1) refl

nothing_behind : (q : ℕ) (xs : List ℕ) → ((k : ℕ) → k < length xs → nat_eq (get_or xs k 0) q ≡ true → ⊥) → after (is_other q) xs ≡ []
unfolding after
nothing_behind q [] none = refl
nothing_behind q (x ∷ xs) none =
    let e : nat_eq x q ≡ false = false_from_ne_true (nat_eq x q) (none 0 (omega arith)) in
    rw e (nothing_behind q xs (λ k below is. none (suc k) (omega arith) is))

pub no_quote : (q : ℕ) (xs : List ℕ) → ((k : ℕ) → k < length xs → nat_eq (get_or xs k 0) q ≡ true → ⊥) → quoted_at q xs ≡ None
unfolding quoted_at
no_quote q xs none = rw (nothing_behind q xs none) refl

pub left_at : (q : ℕ) (xs : List ℕ) (k : ℕ) → k < length xs → ((j : ℕ) → j < k → nat_eq (get_or xs j 0) q ≡ true → ⊥) → nat_eq (get_or xs k 0) q ≡ true → length xs - k ≡ length (after (is_other q) xs)
left_at q xs k below none is = omega (arith, below, length-drop (suc k) xs, ap (length {A = ℕ}) (upto_quote q xs k below none is).1)

pub none_left : (q : ℕ) (xs : List ℕ) → ((k : ℕ) → k < length xs → nat_eq (get_or xs k 0) q ≡ true → ⊥) → 0 ≡ length (after (is_other q) xs)
none_left q xs none = sym (ap (length {A = ℕ}) (nothing_behind q xs none))

pub trimmed_blank : (xs : List ℕ) (b : ℕ) → is_blank b ≡ true → trimmed (xs ++ b ∷ []) ≡ trimmed xs
unfolding trimmed
trimmed_blank [] b blank = rw blank refl
trimmed_blank (x ∷ xs) b blank = rw (list_all-append is_blank xs (b ∷ []), blank) (by_test (is_blank x) (list_all is_blank xs) (trimmed_blank xs b blank))
  where
    by_test : (s t : Bool) → trimmed (xs ++ b ∷ []) ≡ trimmed xs → cond (s && (t && true)) [] (x ∷ trimmed (xs ++ b ∷ [])) ≡ cond (s && t) [] (x ∷ trimmed xs)
    by_test true true e = refl
    by_test true false e = ap (λ (l : List ℕ). x ∷ l) e
    by_test false t e = ap (λ (l : List ℕ). x ∷ l) e

pub trimmed_solid : (xs : List ℕ) (b : ℕ) → is_blank b ≡ false → trimmed (xs ++ b ∷ []) ≡ xs ++ b ∷ []
unfolding trimmed
trimmed_solid [] b solid = rw solid refl
trimmed_solid (x ∷ xs) b solid = rw (list_all-append is_blank xs (b ∷ []), solid) (by_test (is_blank x) (list_all is_blank xs) (trimmed_solid xs b solid))
  where
    by_test : (s t : Bool) → trimmed (xs ++ b ∷ []) ≡ xs ++ b ∷ [] → cond (s && (t && false)) [] (x ∷ trimmed (xs ++ b ∷ [])) ≡ x ∷ (xs ++ b ∷ [])
    by_test true true e = ap (λ (l : List ℕ). x ∷ l) e
    by_test true false e = ap (λ (l : List ℕ). x ∷ l) e
    by_test false t e = ap (λ (l : List ℕ). x ∷ l) e

pub trimmed_nothing : trimmed [] ≡ []
unfolding trimmed
trimmed_nothing = refl

by_last : (xs : List ℕ) → 1 ≤ length xs → take (length xs - 1) xs ++ get_or xs (length xs - 1) 0 ∷ [] ≡ xs
by_last xs some =
    let before : ℕ = length xs - 1 in
    let whole : before + 1 ≡ length xs = omega arith in
    sym (take_more xs before 0 (omega arith)) ∙ ap (λ n. take n xs) whole ∙ take_all (length xs) xs (omega arith)

pub trimmed_at_blank : (xs : List ℕ) → 1 ≤ length xs → is_blank (get_or xs (length xs - 1) 0) ≡ true → trimmed (take (length xs - 1) xs) ≡ trimmed xs
trimmed_at_blank xs some blank = sym (trimmed_blank (take (length xs - 1) xs) (get_or xs (length xs - 1) 0) blank) ∙ ap trimmed (by_last xs some)

pub trimmed_at_solid : (xs : List ℕ) → 1 ≤ length xs → is_blank (get_or xs (length xs - 1) 0) ≡ false → xs ≡ trimmed xs
trimmed_at_solid xs some solid = sym (by_last xs some) ∙ sym (trimmed_solid (take (length xs - 1) xs) (get_or xs (length xs - 1) 0) solid) ∙ ap trimmed (by_last xs some)

pub trimmed_empty : (xs : List ℕ) → length xs < 1 → xs ≡ trimmed xs
trimmed_empty [] none = sym trimmed_nothing
trimmed_empty (x ∷ xs) none = absurd (omega arith)
