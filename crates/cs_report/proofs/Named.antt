-- The minute and the day that a text names.
use Rattle.std.proofs.Common.{◌≡◌, ◌<◌, ◌≤◌, ◌+◌, ◌/◌, ◌%◌, ◌↔◌, ℕ, zero, suc, Bool, true, false, cond, List, Some, None, Result, Ok, Err, IfOk, inl, inr, refl, sym, ap, ◌∙◌, arith}
use Rattle.std.specs.Result.{result_ok}
use Rattle.std.specs.Str.{bytes_eq}
use Rattle.std.proofs.lemmas.Bool.{cases_lt, lt-ltb, le-ltb}
use Rattle.std.proofs.lemmas.Slice.Eq.{bytes_eq-Decides}
use Rattle.cs_civil.specs.Calendar.{first_minute, last_minute, last_day, date_of}
use Rattle.cs_civil.specs.Text.{minute_text, day_text, IsMinuteText, IsDateText}
use Rattle.cs_civil.specs.declared.fault.CivilFault.{CivilFault}
use Rattle.cs_civil.specs.declared.fault.CivilFault.TheVariants.{NotADate, OutOfRange}
use Rattle.cs_civil.proofs.Dates.{has_number, year_bound}
use Rattle.cs_civil.proofs.Texts.{one_day, one_minute}
use Rattle.cs_report.specs.Dates.{written_below, from_on, minute_of, day_of}

false-true : false ≡ true → ⊥
false-true e = cc

module _ (write : ℕ → List ℕ) (text : List ℕ) where
  -- the number that is written so
  pub written : (n t : ℕ) → t < n → write t ≡ text → ((s : ℕ) → write s ≡ text → s ≡ t) → written_below write text n ≡ Some t
  unfolding written_below
  written zero t lt is one = absurd (omega (arith, lt))
  written (suc n) t lt is one = by_test (bytes_eq (write n) text) refl (λ l. written n t l is one)
    where
      below : bytes_eq (write n) text ≡ false → t < n
      below test = elim (cases_lt t n) [
        | inl l ↦ l
        | inr ge ↦
            let same : t ≡ n = omega (arith, lt, ge) in
            let passes : bytes_eq (write n) text ≡ true = (bytes_eq-Decides (write n) text).1 (ap write (sym same) ∙ is) in
            absurd (false-true (sym test ∙ passes))
      ]

      by_test : (b : Bool) → bytes_eq (write n) text ≡ b → (t < n → written_below write text n ≡ Some t) → cond b (Some n) (written_below write text n) ≡ Some t
      by_test true test further = ap Some (one n ((bytes_eq-Decides (write n) text).0 test))
      by_test false test further = further (below test)

  -- no number is
  pub unwritten : (n low : ℕ) → ((t : ℕ) → low ≤ t → t < n → write t ≡ text → ⊥) → from_on low (written_below write text n) ≡ None
  unfolding written_below
  unwritten zero low none = refl
  unwritten (suc n) low none = by_test (bytes_eq (write n) text) refl (unwritten n low (λ t ge lt is. none t ge (omega (arith, lt)) is))
    where
      by_test : (b : Bool) → bytes_eq (write n) text ≡ b → from_on low (written_below write text n) ≡ None → from_on low (cond b (Some n) (written_below write text n)) ≡ None
      by_test true test further = elim (cases_lt n low) [
        | inl l ↦ rw (lt-ltb n low l) refl
        | inr ge ↦ absurd (none n ge (omega arith) ((bytes_eq-Decides (write n) text).0 test))
      ]
      by_test false test further = further

from_low : (low t : ℕ) → low ≤ t → from_on low (Some t) ≡ Some t
from_low low t ge = rw (le-ltb t low ge) refl

pub minute_written : (t : ℕ) (text : List ℕ) → first_minute ≤ t → t ≤ last_minute → text ≡ minute_text t → minute_of text ≡ Some t
unfolding minute_of
minute_written t text ge le is =
    ap (from_on first_minute) (written minute_text text (last_minute + 1) t (omega (arith, le)) (sym is) (λ s h. one_minute text s t is (sym h)))
    ∙ from_low first_minute t ge

pub day_written : (t : ℕ) (text : List ℕ) → 1 ≤ t → t ≤ last_day → text ≡ day_text t → day_of text ≡ Some t
unfolding day_of
day_written t text ge le is =
    ap (from_on 1) (written day_text text (last_day + 1) t (omega (arith, le)) (sym is) (λ s h. one_day text s t is (sym h)))
    ∙ from_low 1 t ge

is_minute_text : (t : ℕ) → t ≤ last_minute → IsMinuteText (minute_text t)
is_minute_text t le =
    let day : t / 1_440 ≤ last_day = omega (arith, le) in
    let clock : t % 1_440 ≤ 1_439 = omega arith in
    let h = has_number (t / 1_440) in
    (date_of (t / 1_440), t % 1_440, record { year = year_bound (t / 1_440) day; month = h.month; dom = h.dom }, clock, refl)

is_date_text : (n : ℕ) → n ≤ last_day → IsDateText (day_text n)
is_date_text n le =
    let h = has_number n in
    (date_of n, record { year = year_bound n le; month = h.month; dom = h.dom }, refl)

no_minute : (text : List ℕ) → ((t : ℕ) → first_minute ≤ t → t ≤ last_minute → text ≡ minute_text t → ⊥) → minute_of text ≡ None
unfolding minute_of
no_minute text none = unwritten minute_text text (last_minute + 1) first_minute (λ t ge lt is. none t ge (omega (arith, lt)) (sym is))

no_day : (text : List ℕ) → ((n : ℕ) → 1 ≤ n → n ≤ last_day → text ≡ day_text n → ⊥) → day_of text ≡ None
unfolding day_of
no_day text none = unwritten day_text text (last_day + 1) 1 (λ t ge lt is. none t ge (omega (arith, lt)) (sym is))

-- what the reader of minutes answers
pub minute_read : (text : List ℕ) (r : Result ℕ CivilFault)
    → IfOk r (λ t. (first_minute ≤ t) × (t ≤ last_minute) × (text ≡ minute_text t))
    → ((r ≡ Err NotADate) ↔ (IsMinuteText text → ⊥))
    → ((r ≡ Err OutOfRange) ↔ (IsMinuteText text × ((t : ℕ) → first_minute ≤ t → t ≤ last_minute → text ≡ minute_text t → ⊥)))
    → result_ok r ≡ minute_of text
minute_read text (Ok t) ok not_a_date out_of_range = sym (minute_written t text ok.0 ok.1 ok.2)
minute_read text (Err NotADate) ok not_a_date out_of_range = sym (no_minute text (λ t ge le is. not_a_date.0 refl (rw is (is_minute_text t le))))
minute_read text (Err OutOfRange) ok not_a_date out_of_range = sym (no_minute text (out_of_range.0 refl).1)

-- and the reader of days
pub day_read : (text : List ℕ) (r : Result ℕ CivilFault)
    → IfOk r (λ n. (1 ≤ n) × (n ≤ last_day) × (text ≡ day_text n))
    → ((r ≡ Err NotADate) ↔ (IsDateText text → ⊥))
    → ((r ≡ Err OutOfRange) ↔ (IsDateText text × ((n : ℕ) → 1 ≤ n → n ≤ last_day → text ≡ day_text n → ⊥)))
    → result_ok r ≡ day_of text
day_read text (Ok n) ok not_a_date out_of_range = sym (day_written n text ok.0 ok.1 ok.2)
day_read text (Err NotADate) ok not_a_date out_of_range = sym (no_day text (λ n ge le is. not_a_date.0 refl (rw is (is_date_text n le))))
day_read text (Err OutOfRange) ok not_a_date out_of_range = sym (no_day text (out_of_range.0 refl).1)
