use Rattle.std.proofs.Common.{◌≡◌, ℕ, zero, suc, ◌+◌, ◌-◌, ◌<◌, ◌≤◌, true, false, List, [], ◌∷◌, ◌++◌, length, get_or, take, reverse, refl, sym, ap, ◌∙◌, arith}
use Rattle.std.proofs.lemmas.List.{take_more, take_all, length-take-le, reverse-append, reverse-reverse}
use Rattle.cs_table.specs.Text.{after, is_blank}
use Rattle.cs_place.specs.Places.{before_word}

by_last : (xs : List ℕ) → 1 ≤ length xs → xs ≡ take (length xs - 1) xs ++ get_or xs (length xs - 1) 0 ∷ []
by_last xs some =
    let before : ℕ = length xs - 1 in
    let whole : before + 1 ≡ length xs = omega arith in
    sym (sym (take_more xs before 0 (omega arith)) ∙ ap (λ n. take n xs) whole ∙ take_all (length xs) xs (omega arith))

with_solid : (xs : List ℕ) (b : ℕ) → is_blank b ≡ false → before_word (xs ++ b ∷ []) ≡ before_word xs
unfolding before_word after
with_solid xs b solid = rw (reverse-append xs (b ∷ []), solid) refl

with_blank : (xs : List ℕ) (b : ℕ) → is_blank b ≡ true → before_word (xs ++ b ∷ []) ≡ xs ++ b ∷ []
unfolding before_word after
with_blank xs b blank = rw (reverse-append xs (b ∷ []), blank, reverse-append (b ∷ []) (reverse xs), reverse-reverse xs) refl

pub solid_end : (xs : List ℕ) → 1 ≤ length xs → is_blank (get_or xs (length xs - 1) 0) ≡ false → before_word (take (length xs - 1) xs) ≡ before_word xs
solid_end xs some solid = sym (with_solid (take (length xs - 1) xs) (get_or xs (length xs - 1) 0) solid) ∙ ap before_word (sym (by_last xs some))

pub blank_end : (xs : List ℕ) → 1 ≤ length xs → is_blank (get_or xs (length xs - 1) 0) ≡ true → xs ≡ before_word xs
blank_end xs some blank = by_last xs some ∙ sym (with_blank (take (length xs - 1) xs) (get_or xs (length xs - 1) 0) blank) ∙ ap before_word (sym (by_last xs some))

pub nothing : (xs : List ℕ) → length xs < 1 → xs ≡ before_word xs
unfolding before_word after
nothing [] none = refl
nothing (x ∷ xs) none = absurd (omega arith)

front_of_front : (text : List ℕ) (m n : ℕ) → m ≤ n → take m (take n text) ≡ take m text
front_of_front [] zero n less = refl
front_of_front [] (suc m) zero less = refl
front_of_front [] (suc m) (suc n) less = refl
front_of_front (b ∷ text) zero n less = refl
front_of_front (b ∷ text) (suc m) zero less = absurd (omega arith)
front_of_front (b ∷ text) (suc m) (suc n) less = ap (λ (l : List ℕ). b ∷ l) (front_of_front text m n (omega arith))

-- a front of a text without its last byte is a front
pub shorter : (text rest : List ℕ) → 1 ≤ length rest → rest ≡ take (length rest) text → take (length rest - 1) rest ≡ take (length (take (length rest - 1) rest)) text
shorter text rest some front =
    ap (take (length rest - 1)) front ∙ front_of_front text (length rest - 1) (length rest) (omega arith)
    ∙ ap (λ n. take n text) (sym (length-take-le (length rest - 1) rest (omega arith)))
