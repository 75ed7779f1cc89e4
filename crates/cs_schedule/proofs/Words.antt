-- One bit of several words.
use Rattle.std.proofs.Common.{◌≡◌, ◌≢◌, ℕ, zero, suc, ◌+◌, ◌-◌, ◌*◌, ◌/◌, ◌%◌, ◌^◌, ◌<◌, ◌≤◌, Bool, true, false, cond, ◌&&◌, ◌||◌, nat_eq, bit_or, max, List, [], ◌∷◌, ◌++◌, length, get_or, set, replicate, refl, ap, sym, ◌∙◌, ◌⊎◌, arith, inl, inr, filter, get_or-set_same, get_or-set_other}
use Rattle.std.specs.List.{range_with_len}
use Rattle.std.specs.Int.{bit_at, w64}
use Rattle.std.proofs.lemmas.Bool.Decides.{eqb_tells}
use Rattle.std.proofs.lemmas.Bool.{cases_eq, eq-eqb, ne_eqb, or_right}
use Rattle.std.proofs.lemmas.Nat.{one_shl}
use Rattle.std.proofs.lemmas.Nat.Bits.{bit_at-pow_same, bit_at-pow_other, bit_at_set_same, bit_at_set_other, bit_at-zero, bit_at_or, bit_at-lt}
use Rattle.std.proofs.lemmas.List.{length-append}
use Rattle.cs_schedule.specs.Numbers.{has_bit}
use Rattle.cs_schedule.specs.Minutes.{is_in, minutes_from}

either : (a b : ℕ) → a < 2 → b < 2 → nat_eq (max a b) 1 ≡ (nat_eq a 1 || nat_eq b 1)
either zero zero p q = refl
either zero (suc b) p q = let e : b ≡ 0 = omega arith in rw e refl
either (suc a) zero p q = let e : a ≡ 0 = omega arith in rw e refl
either (suc a) (suc b) p q = let e : a ≡ 0 = omega arith in let f : b ≡ 0 = omega arith in rw (e, f) refl

pub either_in : (v w k : ℕ) → has_bit (bit_or v w) k ≡ (has_bit v k || has_bit w k)
either_in v w k = rw bit_at_or (either (bit_at v k) (bit_at w k) (bit_at-lt v k) (bit_at-lt w k))

none_or : (b : Bool) → (b || false) ≡ b
none_or true = refl
none_or false = refl

-- the bits of one word are added
pub put_word : (words : List ℕ) (place bits : ℕ) → place < length words → (k : ℕ) → is_in (set words place (bit_or (get_or words place 0) bits)) k ≡ (is_in words k || (nat_eq (k / 64) place && has_bit bits (k % 64)))
put_word words place bits inside k =
    elim (eqb_tells (k / 64) place) [
      | inl same ↦ rw (same.0, same.1, get_or-set_same) (either_in (get_or words place 0) bits (k % 64))
      | inr other ↦ let far : k / 64 ≢ place = other.1 in rw (other.0, get_or-set_other) (sym (none_or (is_in words k)))
    ]

-- a bit alone
pub put_minute : (old : Bool) (m k : ℕ) → (old || (nat_eq (k / 64) (m / 64) && has_bit (1 * 2 ^ (m % 64) % 2 ^ 64) (k % 64))) ≡ (nat_eq k m || old)
put_minute old m k = ap (λ (n : ℕ). old || (nat_eq (k / 64) (m / 64) && has_bit n (k % 64))) (one_shl (m % 64) 64 (omega arith)) ∙ by (cases_eq k m) (cases_eq (k / 64) (m / 64))
  where
    by : (k ≡ m) ⊎ (k ≡ m → ⊥) → (k / 64 ≡ m / 64) ⊎ (k / 64 ≡ m / 64 → ⊥) → (old || (nat_eq (k / 64) (m / 64) && has_bit (2 ^ (m % 64)) (k % 64))) ≡ (nat_eq k m || old)
    by (inl same) _ = rw (eq-eqb k m same, same, eq-eqb (m / 64) (m / 64) refl, bit_at-pow_same (m % 64)) (or_right old true refl)
    by (inr other) (inl place) = rw (ne_eqb k m other, bit_at-pow_other (m % 64) (k % 64) (λ e. other (omega (arith, place, e)))) (none old (nat_eq (k / 64) (m / 64)))
      where
        none : (old b : Bool) → (old || (b && false)) ≡ old
        none true b = refl
        none false true = refl
        none false false = refl
    by (inr other) (inr far) = rw (ne_eqb k m other, ne_eqb (k / 64) (m / 64) far) (none_or old)

pub filter_more : (p : ℕ → Bool) (a k j : ℕ) → a + k ≡ j → filter p (range_with_len a (suc k)) ≡ filter p (range_with_len a k) ++ cond (p j) (j ∷ []) []
filter_more p a zero j e = let same : a ≡ j = omega arith in rw same (nothing (p j))
  where
    nothing : (b : Bool) → cond b (j ∷ []) [] ≡ [] ++ cond b (j ∷ []) []
    nothing true = refl
    nothing false = refl
filter_more p a (suc k) j e = ap (λ rest. cond (p a) (a ∷ rest) rest) (filter_more p (a + 1) k j (omega arith)) ∙ regroup (p a)
  where
    regroup : (b : Bool) → cond b (a ∷ (filter p (range_with_len (a + 1) k) ++ cond (p j) (j ∷ []) [])) (filter p (range_with_len (a + 1) k) ++ cond (p j) (j ∷ []) []) ≡ cond b (a ∷ filter p (range_with_len (a + 1) k)) (filter p (range_with_len (a + 1) k)) ++ cond (p j) (j ∷ []) []
    regroup true = refl
    regroup false = refl

pub count_more : (p : ℕ → Bool) (k : ℕ) → length (filter p (range_with_len 0 (k + 1))) ≡ length (filter p (range_with_len 0 k)) + cond (p k) 1 0
count_more p k = let one-more : k + 1 ≡ suc k = omega arith in ap (λ n. length (filter p (range_with_len 0 n))) one-more ∙ ap length (filter_more p 0 k k (omega arith)) ∙ length-append (filter p (range_with_len 0 k)) (cond (p k) (k ∷ []) []) ∙ ap (λ n. length (filter p (range_with_len 0 k)) + n) (one (p k))
  where
    one : (b : Bool) → length (cond b (k ∷ []) []) ≡ cond b 1 0
    one true = refl
    one false = refl

pub filter_next : (p : ℕ → Bool) (a n : ℕ) → a < n → filter p (range_with_len a (n - a)) ≡ cond (p a) (a ∷ []) [] ++ filter p (range_with_len (a + 1) (n - (a + 1)))
filter_next p a n below = let one-more : n - a ≡ suc (n - (a + 1)) = omega arith in rw one-more (front (p a))
  where
    front : (b : Bool) → cond b (a ∷ filter p (range_with_len (a + 1) (n - (a + 1)))) (filter p (range_with_len (a + 1) (n - (a + 1)))) ≡ cond b (a ∷ []) [] ++ filter p (range_with_len (a + 1) (n - (a + 1)))
    front true = refl
    front false = refl

pub filter_none : (p : ℕ → Bool) (a n : ℕ) → n ≤ a → filter p (range_with_len a (n - a)) ≡ []
filter_none p a n above = let none : n - a ≡ 0 = omega arith in rw none refl

pub minutes_in_next : (words : List ℕ) (n : ℕ) → n < 1440 → is_in words n ≡ true → minutes_from words n ≡ n ∷ minutes_from words (n + 1)
unfolding minutes_from
minutes_in_next words n below e = filter_next (is_in words) n 1440 below ∙ rw e refl

pub minutes_out_next : (words : List ℕ) (n : ℕ) → n < 1440 → is_in words n ≡ false → minutes_from words n ≡ minutes_from words (n + 1)
unfolding minutes_from
minutes_out_next words n below e = filter_next (is_in words) n 1440 below ∙ rw e refl

pub minutes_end : (words : List ℕ) (n : ℕ) → 1440 ≤ n → minutes_from words n ≡ []
unfolding minutes_from
minutes_end words n above = filter_none (is_in words) n 1440 above

zero_at : (n i : ℕ) → ◌≡◌ {A = ℕ} (get_or (replicate n 0) i 0) 0
zero_at zero i = refl
zero_at (suc n) zero = refl
zero_at (suc n) (suc i) = zero_at n i

pub none_in : (k : ℕ) → is_in (replicate 23 0) k ≡ false
none_in k = rw (zero_at 23 (k / 64), bit_at-zero (k % 64)) refl

pub put_in : (word n k : ℕ) → n < 64 → has_bit (bit_or word (1 * 2 ^ n % 2 ^ 64)) k ≡ (nat_eq k n || has_bit word k)
put_in word n k below =
    elim (eqb_tells k n) [
      | inl same ↦ rw (same.0, same.1) (ap (λ b. nat_eq b 1) (bit_at_set_same w64 word n below))
      | inr other ↦ rw other.0 (ap (λ b. nat_eq b 1) (bit_at_set_other w64 word n below k other.1))
    ]
