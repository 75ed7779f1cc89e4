-- The first word ends at the first space.
use Rattle.std.proofs.Common.{◌≡◌, ◌≢◌, ℕ, suc, ◌+◌, ◌<◌, Bool, true, false, not, ◌==◌, cond, nat_lt, List, [], ◌∷◌, length, take, drop, position, Option, Some, None, refl, sym, ap, ◌∙◌, arith}
use Rattle.std.specs.List.{position_or_len}
use Rattle.std.proofs.lemmas.Bool.{ltb-true, ltb-false, ne_eqb}
use Rattle.std.proofs.lemmas.List.{length-take-le}
use Rattle.std.proofs.Math.Seq.{drop-cons}
use Rattle.std.proofs.Math.ListN.{drop_of_length-le}
use Rattle.cs_table.specs.Text.{front, after}
use Rattle.cs_report.specs.Reading.{first_word, parted}
use Rattle.cs_report.specs.Grammar.{is_word_byte}

abbrev is_space : ℕ → Bool
is_space b = b == 32

before_space : (xs : List ℕ) → front is_word_byte xs ≡ take (position_or_len is_space xs) xs
unfolding front
before_space [] = refl
before_space (x ∷ xs) = by_test (x == 32) (before_space xs)
  where
    by_test : (t : Bool) → front is_word_byte xs ≡ take (position_or_len is_space xs) xs → cond (not t) (x ∷ front is_word_byte xs) [] ≡ take (cond (not t) (1 + position_or_len is_space xs) 0) (x ∷ xs)
    by_test true e = refl
    by_test false e =
        let one : suc (position_or_len is_space xs) ≡ 1 + position_or_len is_space xs = omega arith in
        ap (λ (l : List ℕ). x ∷ l) e ∙ ap (λ n. take n (x ∷ xs)) one

from_space : (xs : List ℕ) → after is_word_byte xs ≡ drop (position_or_len is_space xs) xs
unfolding after
from_space [] = refl
from_space (x ∷ xs) = by_test (x == 32) (from_space xs)
  where
    by_test : (t : Bool) → after is_word_byte xs ≡ drop (position_or_len is_space xs) xs → cond (not t) (after is_word_byte xs) (x ∷ xs) ≡ drop (cond (not t) (1 + position_or_len is_space xs) 0) (x ∷ xs)
    by_test true e = refl
    by_test false e =
        let one : suc (position_or_len is_space xs) ≡ 1 + position_or_len is_space xs = omega arith in
        e ∙ ap (λ n. drop n (x ∷ xs)) one

some_is : (i at : ℕ) → ◌≡◌ {A = Option ℕ} (Some i) (Some at) → i ≡ at
some_is i at e = cc

pub no_space : (xs : List ℕ) → position is_space xs ≡ None → first_word xs ≡ None
unfolding first_word
no_space xs none = by_test (nat_lt (position_or_len is_space xs) (length xs)) refl none
  where
    by_test : (t : Bool) → nat_lt (position_or_len is_space xs) (length xs) ≡ t → cond t (Some (position_or_len is_space xs)) None ≡ None → parted (front is_word_byte xs) (after is_word_byte xs) ≡ None
    by_test true is e = absurd cc
    by_test false is e = rw (from_space xs ∙ drop_of_length-le xs (ltb-false (position_or_len is_space xs) (length xs) is)) refl

pub space_at : (xs : List ℕ) (at : ℕ) → position is_space xs ≡ Some at → first_word xs ≡ cond (at == 0) None (Some (take at xs, drop (at + 1) xs))
unfolding first_word
space_at xs at found = by_test (nat_lt (position_or_len is_space xs) (length xs)) refl found
  where
    by_test : (t : Bool) → nat_lt (position_or_len is_space xs) (length xs) ≡ t → cond t (Some (position_or_len is_space xs)) None ≡ Some at → parted (front is_word_byte xs) (after is_word_byte xs) ≡ cond (at == 0) None (Some (take at xs, drop (at + 1) xs))
    by_test true is e =
        let same : position_or_len is_space xs ≡ at = some_is (position_or_len is_space xs) at e in
        let below : at < length xs = omega (arith, same, ltb-true (position_or_len is_space xs) (length xs) is) in
        let next : suc at ≡ at + 1 = omega arith in
        let whole : length (take at xs) ≡ at = length-take-le at xs (omega (arith, below)) in
        rw (before_space xs, from_space xs, same, drop-cons xs at 0 below, next, whole) refl
    by_test false is e = absurd cc

pub space_in_front : (xs : List ℕ) → position is_space xs ≡ Some 0 → None ≡ first_word xs
space_in_front xs found = sym (space_at xs 0 found)

pub space_behind : (xs : List ℕ) (at : ℕ) → position is_space xs ≡ Some at → at ≢ 0 → Some (take at xs, drop (at + 1) xs) ≡ first_word xs
space_behind xs at found some = rw (space_at xs at found, ne_eqb at 0 some) refl
