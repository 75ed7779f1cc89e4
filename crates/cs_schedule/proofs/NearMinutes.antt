-- Bits of one word, counted from a minute on.
use Rattle.std.proofs.Common.{◌≡◌, ℕ, zero, suc, ◌+◌, ◌-◌, ◌*◌, ◌/◌, ◌%◌, ◌^◌, ◌<◌, ◌≤◌, true, false, nat_eq, List, inl, inr, get_or, sym, ap, ◌∙◌, arith}
use Rattle.std.specs.Prelude.{min}
use Rattle.std.specs.Int.{bit_at, w64, trailing_zeros}
use Rattle.std.specs.Int.Count.{trailing_of_zero}
use Rattle.std.proofs.lemmas.Bool.{cases_lt, both_ways}
use Rattle.std.proofs.lemmas.Nat.{and_mask, shr-shr}
use Rattle.std.proofs.lemmas.Nat.Bits.{bit_at-lt, bit_at-trailing_zeros, bit_at-zero, bit_at_and, bit_at_ones}
use Rattle.cs_schedule.specs.Numbers.{has}
use Rattle.cs_schedule.specs.Minutes.{is_in, minutes_in, minutes_where, minutes_from}
use Rattle.cs_schedule.proofs.Ranges.{has-filter, has-filter_past}
use Rattle.cs_schedule.proofs.Words.{minutes_out_next}

pub below_lowest : (word i : ℕ) → word < 2 ^ 64 → i < trailing_zeros w64 word → bit_at word i ≡ 0
below_lowest zero i fits low = bit_at-zero i
below_lowest (suc word) i fits low = (bit_at-trailing_zeros w64 (suc word) (omega arith) fits).2 i low

pub at_lowest : (word : ℕ) → word < 2 ^ 64 → trailing_zeros w64 word < 64 → bit_at word (trailing_zeros w64 word) ≡ 1
at_lowest zero fits low = absurd (omega (arith, trailing_of_zero 64))
at_lowest (suc word) fits low = (bit_at-trailing_zeros w64 (suc word) (omega arith) fits).1

abbrev pub rest_of : List ℕ → ℕ → ℕ
rest_of words minute = get_or words (minute / 64) 0 / 2 ^ (minute % 64)

pub bit_of_rest : (words : List ℕ) (minute i : ℕ) → minute % 64 + i < 64 → nat_eq (bit_at (rest_of words minute) i) 1 ≡ is_in words (minute + i)
bit_of_rest words minute i low =
    let same : (minute + i) / 64 ≡ minute / 64 = omega arith in
    let place : (minute + i) % 64 ≡ minute % 64 + i = omega arith in
    rw (same, place) (ap (λ (n : ℕ). nat_eq (n % 2) 1) (shr-shr (get_or words (minute / 64) 0) (minute % 64) i))

-- the same for a minute of the word from this one on
pub bit_at_minute : (words : List ℕ) (minute k : ℕ) → minute ≤ k → k / 64 ≡ minute / 64 → nat_eq (bit_at (rest_of words minute) (k - minute)) 1 ≡ is_in words k
bit_at_minute words minute k low same =
    let whole : minute + (k - minute) ≡ k = omega arith in
    bit_of_rest words minute (k - minute) (omega arith) ∙ ap (is_in words) whole

-- the minute of the lowest bit is in the set, if one from this minute on is
pub set_near : (words : List ℕ) (minute clear last found k : ℕ) → ((i : ℕ) → i < clear → bit_at (rest_of words minute) i ≡ 0) → (clear < 64 → bit_at (rest_of words minute) clear ≡ 1)
    → last ≡ min (minute / 64 * 64 + 63) 1439 → found ≡ min (minute + clear) last
    → minute ≤ k → k < 1440 → k / 64 ≡ minute / 64 → is_in words k ≡ true → is_in words found ≡ true
set_near words minute clear last found k out set last_is found_is low day same is =
    elim (cases_lt (k - minute) clear) [
      | inl lt ↦ absurd (both_ways (is_in words k) (sym (bit_at_minute words minute k low same) ∙ ap (λ (b : ℕ). nat_eq b 1) (out (k - minute) lt)) is)
      | inr le ↦
          let found_at : found ≡ minute + clear = omega arith in
          ap (is_in words) found_at ∙ sym (bit_of_rest words minute clear (omega arith)) ∙ ap (λ (b : ℕ). nat_eq b 1) (set (omega arith))
    ]

pub in_set : (words set : List ℕ) → minutes_in words ≡ set → (k : ℕ) → k < 1440 → has set k ≡ is_in words k
unfolding minutes_where
in_set words set e k lt = ap (λ (s : List ℕ). has s k) (sym e) ∙ has-filter (is_in words) 0 1440 k (omega arith) (omega arith)

pub in_day : (words set : List ℕ) → minutes_in words ≡ set → (k : ℕ) → has set k ≡ true → k < 1440
unfolding minutes_where
in_day words set e k h =
    elim (cases_lt k 1440) [
      | inl lt ↦ lt
      | inr le ↦ absurd (both_ways (has set k) (ap (λ (s : List ℕ). has s k) (sym e) ∙ has-filter_past (is_in words) 0 1440 k (omega arith)) h)
    ]

pub out_of_day : (words set : List ℕ) → minutes_in words ≡ set → (k : ℕ) → 1440 ≤ k → has set k ≡ false
unfolding minutes_where
out_of_day words set e k past = ap (λ (s : List ℕ). has s k) (sym e) ∙ has-filter_past (is_in words) 0 1440 k (omega arith)

pub low_bit : (n k i : ℕ) → i < k → bit_at (n % 2 ^ k) i ≡ bit_at n i
low_bit n k i low =
    ap (λ (m : ℕ). bit_at m i) (sym (and_mask n k)) ∙ bit_at_and n (2 ^ k - 1) i ∙ ap (min (bit_at n i)) (bit_at_ones k i low) ∙ at_most_one
  where
    at_most_one : min (bit_at n i) 1 ≡ bit_at n i
    at_most_one = let lt = bit_at-lt n i in omega (arith, lt)

-- minutes that aren't in the set may be passed over
pub minutes_skip : (words : List ℕ) (n gap k : ℕ) → n + gap ≡ k → k ≤ 1440 → ((j : ℕ) → n ≤ j → j < k → is_in words j ≡ false) → minutes_from words n ≡ minutes_from words k
minutes_skip words n zero k e within out = let same : n ≡ k = omega arith in ap (minutes_from words) same
minutes_skip words n (suc gap) k e within out =
    minutes_out_next words n (omega arith) (out n (omega arith) (omega arith)) ∙ minutes_skip words (n + 1) gap k (omega arith) within (λ j low high. out j (omega arith) high)
