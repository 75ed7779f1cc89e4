-- The parts of an item, by the tests that the code makes.
use Rattle.std.proofs.Common.{◌≡◌, ℕ, ◌-◌, ◌%◌, ◌<◌, ◌≤◌, Bool, true, false, cond, ◌||◌, ◌&&◌, nat_eq, nat_lt, nat_le, List, [], ◌∷◌, length, min, take, drop, Ok, Err, Result, refl, sym, ap, ◌∙◌, arith, inl, inr}
use Rattle.std.proofs.lemmas.Bool.{cases_lt, lt-ltb, le-ltb, eq-eqb, false_from_ne_true, eqb-true}
use Rattle.std.proofs.Math.Nat.{mod-eq_of_lt}
use Rattle.cs_schedule.specs.Numbers.{numbers_where, is_every}
use Rattle.cs_schedule.proofs.Ranges.{numbers_same}
use Rattle.cs_schedule.specs.declared.part.Part.{Part}
use Rattle.cs_crontab.specs.declared.fault.LineFault.{LineFault}
use Rattle.cs_schedule.specs.declared.part.Part.TheVariants as parts
use Rattle.cs_crontab.specs.declared.fault.LineFault.TheVariants as faults
use Rattle.cs_table.specs.Text.{front, after, is_digit, decimal}
use Rattle.cs_schedule.specs.Part.{first_of, last_of}
use Rattle.cs_crontab.specs.Format.{place_of}
use Rattle.cs_crontab.specs.Reading.{named, number_at, every, cut_step}

some_digits : (digits : List ℕ) → 0 < length digits → nat_eq (length digits) 0 ≡ false
some_digits [] some = absurd (omega arith)
some_digits (d ∷ ds) some = false_from_ne_true (nat_eq (length (d ∷ ds)) 0) (λ e. absurd (omega (arith, eqb-true (length (d ∷ ds)) 0 e)))

or_true : (b : Bool) → (b || true) ≡ true
or_true true = refl
or_true false = refl

module _ (part : Part) (text : List ℕ) where
  pub number_none : length (front is_digit text) ≡ 0 → number_at part text ≡ named part (place_of part (take 3 text)) (drop 3 text)
  unfolding number_at
  number_none none = rw (eq-eqb (length (front is_digit text)) 0 none) refl

  pub number_low : 0 < length (front is_digit text) → decimal (front is_digit text) < first_of part → number_at part text ≡ Err faults.OutOfField
  unfolding number_at
  number_low some out = rw (some_digits (front is_digit text) some, lt-ltb (decimal (front is_digit text)) (first_of part) out) refl

  pub number_high : 0 < length (front is_digit text) → last_of part < decimal (front is_digit text) → number_at part text ≡ Err faults.OutOfField
  unfolding number_at
  number_high some out =
      rw (some_digits (front is_digit text) some, lt-ltb (last_of part) (decimal (front is_digit text)) out)
      (ap (λ b. cond b (Err faults.OutOfField) (Ok (decimal (front is_digit text), after is_digit text))) (or_true (nat_lt (decimal (front is_digit text)) (first_of part))))

  pub number_in : 0 < length (front is_digit text) → first_of part ≤ decimal (front is_digit text) → decimal (front is_digit text) ≤ last_of part → number_at part text ≡ Ok (decimal (front is_digit text), after is_digit text)
  unfolding number_at
  number_in some low high = rw (some_digits (front is_digit text) some, le-ltb (decimal (front is_digit text)) (first_of part) low, le-ltb (last_of part) (decimal (front is_digit text)) high) refl

pub last_below : (part : Part) → last_of part < 64
last_below part = elim part as (λ p. last_of p < 64) [ parts.Minute ↦ omega arith | parts.Hour ↦ omega arith | parts.Dom ↦ omega arith | parts.Month ↦ omega arith | parts.Dow ↦ omega arith ]

pub first_below : (part : Part) → first_of part ≤ last_of part
first_below part = elim part as (λ p. first_of p ≤ last_of p) [ parts.Minute ↦ omega arith | parts.Hour ↦ omega arith | parts.Dom ↦ omega arith | parts.Month ↦ omega arith | parts.Dow ↦ omega arith ]

-- a step above 1,000,000 selects what 1,000,000 does: only the first number
cut_mod : (k s : ℕ) → k < 64 → k % min 1_000_000 s ≡ k % s
cut_mod k s below =
    elim (cases_lt s 1_000_000) [
      | inl lt ↦ ap (λ n. k % n) (omega arith)
      | inr le ↦
          let cut : min 1_000_000 s ≡ 1_000_000 = omega arith in
          let one : k % 1_000_000 ≡ k = mod-eq_of_lt (omega arith) in
          let other : k % s ≡ k = mod-eq_of_lt (omega arith) in
          ap (λ n. k % n) cut ∙ one ∙ sym other
    ]

every_same : (first last s : ℕ) → numbers_where (is_every first last (min 1_000_000 s)) ≡ numbers_where (is_every first last s)
every_same first last s =
    numbers_same (is_every first last (min 1_000_000 s)) (is_every first last s) (λ k below.
    let near : k - first < 64 = omega arith in ap (λ r. (nat_le first k && nat_le k last) && nat_eq r 0) (cut_mod (k - first) s near))

abbrev done : ℕ × List ℕ → Result (ℕ × List ℕ) LineFault
done x = Ok x

pub every_cut : (first last : ℕ) (step : Result (ℕ × List ℕ) LineFault) (n : ℕ) (rest : List ℕ) → cut_step step ≡ Ok (n, rest) → every first last step ≡ Ok (numbers_where (is_every first last n), rest)
every_cut first last (Err e) n rest h = absurd cc
every_cut first last (Ok s) n rest h =
    let same : done (min 1_000_000 s.0, s.1) ≡ done (n, rest) = h in
    let pairs : ◌≡◌ {A = ℕ × List ℕ} (min 1_000_000 s.0, s.1) (n, rest) = cc in
    let n-is : min 1_000_000 s.0 ≡ n = ap (λ (p : ℕ × List ℕ). p.0) pairs in
    let rest-is : s.1 ≡ rest = ap (λ (p : ℕ × List ℕ). p.1) pairs in
    rw (← n-is, ← rest-is, every_same first last s.0) refl
