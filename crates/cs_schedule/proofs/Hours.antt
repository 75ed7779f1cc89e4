-- The bits of an hour, put into the words of a day.
use Rattle.std.proofs.Common.{◌≡◌, ℕ, ◌+◌, ◌-◌, ◌*◌, ◌/◌, ◌%◌, ◌^◌, ◌<◌, ◌≤◌, Bool, true, false, ◌&&◌, ◌||◌, ◌⊎◌, nat_eq, nat_le, nat_lt, bit_and, List, refl, sym, ap, ◌∙◌, inl, inr, arith}
use Rattle.std.specs.Prelude.{min}
use Rattle.std.specs.Int.{bit_at}
use Rattle.std.proofs.lemmas.Bool.{and_parts, cases_lt, le-leb, le-ltb, leb-true, lt-ltb}
use Rattle.std.proofs.lemmas.Bool.Decides.{nat_tests}
use Rattle.std.proofs.lemmas.Nat.{one_shl, pow_pos, shr-shr}
use Rattle.std.proofs.lemmas.Nat.Bits.{bit_at-lt, bit_at-zero, bit_at_and, bit_at_cat_high, bit_at_cat_low, bit_at_mask_below, bit_at_mask_inside, bit_at_ones, bit_at_ones_above, ones_shl}
use Rattle.cs_schedule.specs.Minutes.{is_shown}
use Rattle.cs_schedule.specs.Numbers.{has, has_bit}
use Rattle.cs_schedule.specs.Times.{Times, is_time_due, is_time_shown}
use Rattle.cs_schedule.proofs.NearMinutes.{low_bit}

-- ---- the bits from one number on and before another

pub between : (word low high k : ℕ) → low ≤ 60 → high ≤ 60 → (listed : Bool) → (k < 64 → has_bit word k ≡ listed)
    → has_bit (bit_and (bit_and word (1 * 2 ^ high % 2 ^ 64 - 1)) ((2 ^ 64 - 1) * 2 ^ low % 2 ^ 64)) k ≡ (nat_le low k && (nat_lt k high && listed))
between word low high k low_fits high_fits listed is =
    ap (λ (n : ℕ). has_bit (bit_and (bit_and word (n - 1)) ((2 ^ 64 - 1) * 2 ^ low % 2 ^ 64)) k) (one_shl high 64 (omega arith))
    ∙ ap (λ (n : ℕ). has_bit (bit_and (bit_and word (2 ^ high - 1)) n) k) (ones_shl 64 low (omega arith))
    ∙ by (cases_lt k low) (cases_lt k high)
  where
    parts : bit_at (bit_and (bit_and word (2 ^ high - 1)) (2 ^ 64 - 2 ^ low)) k ≡ min (min (bit_at word k) (bit_at (2 ^ high - 1) k)) (bit_at (2 ^ 64 - 2 ^ low) k)
    parts = bit_at_and (bit_and word (2 ^ high - 1)) (2 ^ 64 - 2 ^ low) k ∙ ap (λ (b : ℕ). min b (bit_at (2 ^ 64 - 2 ^ low) k)) (bit_at_and word (2 ^ high - 1) k)

    by : (k < low) ⊎ (low ≤ k) → (k < high) ⊎ (high ≤ k) → has_bit (bit_and (bit_and word (2 ^ high - 1)) (2 ^ 64 - 2 ^ low)) k ≡ (nat_le low k && (nat_lt k high && listed))
    by (inl under) _ = grind (arith, nat_tests, parts, bit_at_mask_below low 64 k under)
    by (inr from) (inr past) = grind (arith, nat_tests, parts, bit_at_ones_above high k past)
    by (inr from) (inl to) = grind (arith, nat_tests, parts, bit_at-lt word k, bit_at_ones high k to, bit_at_mask_inside low 64 k from (omega arith), is (omega arith))

-- ---- shifted words

up_bit : (n s i : ℕ) → i < 64 → has_bit (n * 2 ^ s % 2 ^ 64) i ≡ (nat_le s i && has_bit n (i - s))
up_bit n s i low =
    let plain : n * 2 ^ s ≡ n * 2 ^ s + 0 = omega arith in
    let whole : bit_at (n * 2 ^ s % 2 ^ 64) i ≡ bit_at (n * 2 ^ s + 0) i = low_bit (n * 2 ^ s) 64 i low ∙ ap (λ (m : ℕ). bit_at m i) plain in
    elim (cases_lt i s) [
      | inl lt ↦ let none : bit_at (n * 2 ^ s + 0) i ≡ 0 = bit_at_cat_low n s 0 i lt ∙ bit_at-zero i in grind (arith, nat_tests, whole, none)
      | inr le ↦ let same = bit_at_cat_high n s 0 i (pow_pos s) le in grind (arith, nat_tests, whole, same)
    ]

down_bit : (n s i : ℕ) → has_bit (n / 2 ^ s) i ≡ has_bit n (s + i)
down_bit n s i = ap (λ (m : ℕ). nat_eq (m % 2) 1) (shr-shr n s i)

-- the three words that the bits of an hour go to
pub put_three : (hour first rest k : ℕ) (old one two three : Bool) → ((i : ℕ) → 60 ≤ i → has_bit hour i ≡ false) → first < 1440 → k < 1440 → rest ≡ min (1440 - first) 63
    → one ≡ (old || (nat_eq (k / 64) (first / 64) && has_bit (hour * 2 ^ (first % 64) % 2 ^ 64) (k % 64)))
    → two ≡ (one || (nat_eq (k / 64) (first / 64 + 1) && has_bit (hour / 2 ^ 1 / 2 ^ (63 - first % 64)) (k % 64)))
    → three ≡ (two || (nat_eq (k / 64) 0 && has_bit (hour / 2 ^ rest) (k % 64)))
    → three ≡ (old || has_bit hour ((k + 1440 - first) % 1440))
put_three hour first rest k old one two three above fits below rest_is first_put second_put third_put =
    third_put
    ∙ rw (second_put, first_put, up_bit hour (first % 64) (k % 64) (omega arith), down_bit (hour / 2 ^ 1) (63 - first % 64) (k % 64), down_bit hour 1 ((63 - first % 64) + k % 64), down_bit hour rest (k % 64))
    (spread (has_bit hour) first rest k old above fits below rest_is)
  where
    spread : (bit : ℕ → Bool) (first rest k : ℕ) (old : Bool) → ((i : ℕ) → 60 ≤ i → bit i ≡ false) → first < 1440 → k < 1440 → rest ≡ min (1440 - first) 63
        → (((old || (nat_eq (k / 64) (first / 64) && (nat_le (first % 64) (k % 64) && bit (k % 64 - first % 64)))) || (nat_eq (k / 64) (first / 64 + 1) && bit (1 + ((63 - first % 64) + k % 64)))) || (nat_eq (k / 64) 0 && bit (rest + k % 64)))
        ≡ (old || bit ((k + 1440 - first) % 1440))
    spread bit first rest k old above fits below rest_is = grind (arith, nat_tests, above)

-- ---- from one listed hour to the next

pub next_listed : (hours : List ℕ) (bits low next : ℕ) → low ≤ 24 → next ≤ 64 → ((k : ℕ) → has_bit bits k ≡ (nat_le low k && (nat_lt k 24 && has hours k))) → ((i : ℕ) → i < next → bit_at bits i ≡ 0) → (next < 64 → bit_at bits next ≡ 1)
    → (low ≤ next) × (next < 24 → has hours next ≡ true) × ((k : ℕ) → low ≤ k → k < 24 → k < next → has hours k ≡ false)
next_listed hours bits low next early fits is out set = (from (cases_lt next 64), λ lt. (found (omega arith)).1, none)
  where
    found : next < 64 → (low ≤ next) × (has hours next ≡ true)
    found lt =
        let both = and_parts (nat_le low next) (nat_lt next 24 && has hours next) (sym (is next) ∙ ap (λ (b : ℕ). nat_eq b 1) (set lt)) in
        (leb-true low next both.0, (and_parts (nat_lt next 24) (has hours next) both.1).1)

    from : (next < 64) ⊎ (64 ≤ next) → low ≤ next
    from (inl lt) = (found lt).0
    from (inr ge) = omega arith

    none : (k : ℕ) → low ≤ k → k < 24 → k < next → has hours k ≡ false
    none k le day lt =
        let e : (nat_le low k && (nat_lt k 24 && has hours k)) ≡ has hours k = rw (le-leb low k le, lt-ltb k 24 day) refl in
        sym e ∙ sym (is k) ∙ ap (λ (b : ℕ). nat_eq b 1) (out k lt)

-- no hour between is listed
pub skipped : (hours minutes : List ℕ) (from to low next time : ℕ) → low ≤ next → time < 1440 → ((k : ℕ) → low ≤ k → k < 24 → k < next → has hours k ≡ false)
    → (nat_lt (time / 60) low && is_shown hours minutes from to time) ≡ (nat_lt (time / 60) next && is_shown hours minutes from to time)
skipped hours minutes from to low next time up day none = elim (cases_lt (time / 60) low) [
  | inl lt ↦ ap (λ (b : Bool). b && is_shown hours minutes from to time) (lt-ltb (time / 60) low lt ∙ sym (lt-ltb (time / 60) next (omega arith)))
  | inr ge ↦ elim (cases_lt (time / 60) next) [
    | inl lt ↦ rw (le-ltb (time / 60) low ge, lt-ltb (time / 60) next lt, none (time / 60) ge (omega arith) lt) (nothing (nat_le from time) (nat_lt time to))
    | inr past ↦ ap (λ (b : Bool). b && is_shown hours minutes from to time) (le-ltb (time / 60) low ge ∙ sym (le-ltb (time / 60) next past))
  ]
]
  where
    nothing : (a b : Bool) → false ≡ (a && (b && false))
    nothing true true = refl
    nothing true false = refl
    nothing false b = refl

-- one hour more
pub taken_in : (hours minutes : List ℕ) (turn from to hour k low high first : ℕ) (old new bit : Bool) → turn ≤ 1440 → hour < 24 → k < 1440
    → low ≡ min (from - 60 * hour) 60 → high ≡ min (to - 60 * hour) 60 → first ≡ (60 * hour + 1440 - turn) % 1440 → has hours hour ≡ true
    → bit ≡ (nat_le low ((k + 1440 - first) % 1440) && (nat_lt ((k + 1440 - first) % 1440) high && has minutes ((k + 1440 - first) % 1440)))
    → old ≡ (nat_lt ((k + turn) % 1440 / 60) hour && is_shown hours minutes from to ((k + turn) % 1440))
    → new ≡ (old || bit)
    → new ≡ (nat_lt ((k + turn) % 1440 / 60) (hour + 1) && is_shown hours minutes from to ((k + turn) % 1440))
taken_in hours minutes turn from to hour k low high first old new bit turns early below low_is high_is first_is listed bit_is old_is new_is = grind (arith, nat_tests)

-- a clock that isn't ahead
pub unturned : (s : Times) (k : ℕ) → k < 1440 → is_time_shown s 0 0 1440 k ≡ is_time_due s k
unturned s k below =
    let same : (k + 0) % 1440 ≡ k = omega arith in
    rw (same, le-leb 0 k (omega arith), lt-ltb k 1440 below) refl
