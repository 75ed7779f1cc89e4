-- The longest front that passes a test, place by place.
use Rattle.std.proofs.Common.{◌≡◌, ℕ, suc, ◌+◌, ◌*◌, ◌-◌, ◌<◌, ◌≤◌, Bool, true, false, cond, List, [], ◌∷◌, ◌++◌, length, get_or, take, drop, min, refl, sym, ap, ◌∙◌, append_assoc, arith}
use Rattle.std.proofs.Math.Seq.{drop-cons}
use Rattle.std.proofs.Math.ListN.{drop_of_length-le}
use Rattle.std.proofs.lemmas.List.{take_more}
use Rattle.cs_table.specs.Text.{front, after, decimal_from}

module _ (p : ℕ → Bool) (xs : List ℕ) (i : ℕ) where
  here : i < length xs → drop i xs ≡ get_or xs i 0 ∷ drop (i + 1) xs
  here below = let e : suc i ≡ i + 1 = omega arith in drop-cons xs i 0 below ∙ ap (λ n. get_or xs i 0 ∷ drop n xs) e

  pub front_more : i < length xs → p (get_or xs i 0) ≡ true → front p (drop i xs) ≡ get_or xs i 0 ∷ front p (drop (i + 1) xs)
  unfolding front
  front_more below passes = ap (front p) (here below) ∙ rw passes refl

  pub after_more : i < length xs → p (get_or xs i 0) ≡ true → after p (drop i xs) ≡ after p (drop (i + 1) xs)
  unfolding after
  after_more below passes = ap (after p) (here below) ∙ rw passes refl

  pub front_stop : i < length xs → p (get_or xs i 0) ≡ false → front p (drop i xs) ≡ []
  unfolding front
  front_stop below fails = ap (front p) (here below) ∙ rw fails refl

  pub after_stop : i < length xs → p (get_or xs i 0) ≡ false → after p (drop i xs) ≡ drop i xs
  unfolding after
  after_stop below fails = ap (after p) (here below) ∙ rw fails (sym (here below))

  pub front_end : length xs ≤ i → front p (drop i xs) ≡ []
  unfolding front
  front_end past = ap (front p) (drop_of_length-le xs past)

  pub after_end : length xs ≤ i → after p (drop i xs) ≡ drop i xs
  unfolding after
  after_end past = ap (after p) (drop_of_length-le xs past) ∙ sym (drop_of_length-le xs past)

  pub taken_more : i < length xs → p (get_or xs i 0) ≡ true → take (i + 1) xs ++ front p (drop (i + 1) xs) ≡ take i xs ++ front p (drop i xs)
  taken_more below passes =
      ap (λ (l : List ℕ). l ++ front p (drop (i + 1) xs)) (take_more xs i 0 below)
      ∙ append_assoc (take i xs) (get_or xs i 0 ∷ []) (front p (drop (i + 1) xs))
      ∙ ap (λ (l : List ℕ). take i xs ++ l) (sym (front_more below passes))

pub decimal_next : (n d : ℕ) (digits : List ℕ) → decimal_from n (d ∷ digits) ≡ decimal_from (10 * n + (d - 48)) digits
unfolding decimal_from
decimal_next n d digits = refl

pub decimal_end : (n : ℕ) → decimal_from n [] ≡ n
unfolding decimal_from
decimal_end n = refl

cut_same : (m n d : ℕ) → min 1_000_000 m ≡ min 1_000_000 n → min 1_000_000 (10 * m + (d - 48)) ≡ min 1_000_000 (10 * n + (d - 48))
cut_same m n d e = omega arith

pub decimal_cut : (digits : List ℕ) (m n : ℕ) → min 1_000_000 m ≡ min 1_000_000 n → min 1_000_000 (decimal_from m digits) ≡ min 1_000_000 (decimal_from n digits)
decimal_cut [] m n e = rw (decimal_end m, decimal_end n) e
decimal_cut (d ∷ digits) m n e = rw (decimal_next m d digits, decimal_next n d digits) (decimal_cut digits (10 * m + (d - 48)) (10 * n + (d - 48)) (cut_same m n d e))

pub length-parts : (p : ℕ → Bool) (xs : List ℕ) → length (front p xs) + length (after p xs) ≡ length xs
unfolding front after
length-parts p [] = refl
length-parts p (x ∷ xs) = by_test (p x) (length-parts p xs)
  where
    by_test : (b : Bool) → length (front p xs) + length (after p xs) ≡ length xs → length (cond b (x ∷ front p xs) []) + length (cond b (after p xs) (x ∷ xs)) ≡ suc (length xs)
    by_test true e = omega (arith, e)
    by_test false e = omega arith
