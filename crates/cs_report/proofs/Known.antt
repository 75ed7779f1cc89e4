-- Whether a word is one of a list, as the loop over the list finds it.
use Rattle.std.proofs.Common.{◌≡◌, ℕ, suc, ◌+◌, ◌-◌, ◌≤◌, Bool, true, false, not, ◌||◌, ◌==◌, cond, nat_lt, List, [], ◌∷◌, length, take, drop, position, Option, Some, None, refl, sym, ap, ◌∙◌, arith}
use Rattle.std.specs.List.{onto_first, position_or_len, slice_split}
use Rattle.std.specs.Str.{bytes_eq}
use Rattle.std.proofs.lemmas.Bool.{ltb-true, ltb-false}
use Rattle.std.proofs.lemmas.List.{take_rest}
use Rattle.std.proofs.lemmas.List.Splits.{slice_split_first}
use Rattle.cs_report.specs.User.{is_one_of}

abbrev is_space : ℕ → Bool
is_space b = b == 32

or_none : (a : Bool) → (a || false) ≡ a
or_none true = refl
or_none false = refl

one_word : (xs : List ℕ) → length xs ≤ position_or_len is_space xs → slice_split is_space xs ≡ xs ∷ []
one_word [] past = refl
one_word (x ∷ xs) past = by_test (x == 32) past (one_word xs)
  where
    by_test : (t : Bool) → suc (length xs) ≤ cond (not t) (1 + position_or_len is_space xs) 0 → (length xs ≤ position_or_len is_space xs → slice_split is_space xs ≡ xs ∷ []) → cond t ([] ∷ slice_split is_space xs) (onto_first x (slice_split is_space xs)) ≡ (x ∷ xs) ∷ []
    by_test true e whole = absurd (omega (arith, e))
    by_test false e whole = ap (onto_first x) (whole (omega (arith, e)))

pub is_last : (xs word : List ℕ) → position is_space xs ≡ None → bytes_eq xs word ≡ is_one_of xs word
is_last xs word none = by_test (nat_lt (position_or_len is_space xs) (length xs)) refl none
  where
    by_test : (t : Bool) → nat_lt (position_or_len is_space xs) (length xs) ≡ t → cond t (Some (position_or_len is_space xs)) None ≡ None → bytes_eq xs word ≡ is_one_of xs word
    by_test true is e = absurd cc
    by_test false is e = rw (one_word xs (ltb-false (position_or_len is_space xs) (length xs) is)) (sym (or_none (bytes_eq xs word)))

some_is : (i at : ℕ) → ◌≡◌ {A = Option ℕ} (Some i) (Some at) → i ≡ at
some_is i at e = cc

next_word : (xs : List ℕ) (at : ℕ) → position is_space xs ≡ Some at → slice_split is_space xs ≡ take at xs ∷ slice_split is_space (drop (at + 1) xs)
next_word xs at found = by_test (nat_lt (position_or_len is_space xs) (length xs)) refl found
  where
    by_test : (t : Bool) → nat_lt (position_or_len is_space xs) (length xs) ≡ t → cond t (Some (position_or_len is_space xs)) None ≡ Some at → slice_split is_space xs ≡ take at xs ∷ slice_split is_space (drop (at + 1) xs)
    by_test true is e =
        slice_split_first is_space xs 0 (ltb-true (position_or_len is_space xs) (length xs) is)
        ∙ ap (λ n. take n xs ∷ slice_split is_space (drop (n + 1) xs)) (some_is (position_or_len is_space xs) at e)
    by_test false is e = absurd cc

pub is_here : (xs word : List ℕ) (at : ℕ) → position is_space xs ≡ Some at → bytes_eq (take at xs) word ≡ true → true ≡ is_one_of xs word
is_here xs word at found is = rw (next_word xs at found, is) refl

pub is_behind : (xs word : List ℕ) (at : ℕ) → position is_space xs ≡ Some at → bytes_eq (take at xs) word ≡ false → is_one_of (take (length xs - (at + 1)) (drop (at + 1) xs)) word ≡ is_one_of xs word
is_behind xs word at found is = rw (take_rest xs (at + 1), next_word xs at found, is) refl
