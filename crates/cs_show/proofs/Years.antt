-- The calendar repeats after 400 years, 146,097 days, which are whole weeks.
use Rattle.std.proofs.Common.{◌≡◌, ℕ, zero, suc, ◌+◌, ◌*◌, ◌/◌, ◌%◌, inl, inr, refl, sym, ap, ◌∙◌, arith, rules, pos}
use Rattle.std.proofs.lemmas.Bool.{cases_lt}
use Rattle.std.proofs.lemmas.Bool.Decides.{nat_tests}
use Rattle.jiff_core.specs.Calendar.{days_in_month, is_leap_year, day_count}
use Rattle.jiff_core.specs.declared.civil.date.Date.{Date}
use Rattle.jiff_core.specs.Date.{epoch_day}
use Rattle.jiff_core.proofs.SignedLemmas.{signed_arith}
use Rattle.jiff_core.proofs.CalendarLemmas.{days_from_civil-day_count}
use Rattle.jiff_core.proofs.MarchLemmas.{day_count-early}
use Rattle.cs_civil.specs.Calendar.{CivilDate, next_date, date_of, kind}
use Rattle.cs_civil.proofs.Dates.{date_at, date_of-next}
use Rattle.cs_civil.proofs.Following.{next_in, next_month, next_first}

abbrev later : CivilDate → CivilDate
later d = record { year = d.year + 400; month = d.month; dom = d.dom }

leap_again : (y : ℕ) → is_leap_year (pos (y + 400)) ≡ is_leap_year (pos y)
leap_again y = grind (arith, nat_tests)

length_again : (y m : ℕ) → days_in_month (pos (y + 400)) m ≡ days_in_month (pos y) m
length_again y m = let e = leap_again y in rw e

next_again : (d : CivilDate) → next_date (later d) ≡ later (next_date d)
next_again d =
    let e = length_again d.year d.month in
    let y = d.year in
    let m = d.month in
    let n = d.dom in
    elim (cases_lt n (days_in_month (pos y) m)) [
      | inl lt ↦ next_in (y + 400) m n (omega (arith, e)) ∙ ap later (sym (next_in y m n lt))
      | inr ge ↦ elim (cases_lt m 12) [
        | inl lt ↦ next_month (y + 400) m n (omega (arith, e)) lt ∙ ap later (sym (next_month y m n ge lt))
        | inr last ↦ next_first (y + 400) m n (omega (arith, e)) last ∙ (let f : d.year + 400 + 1 ≡ d.year + 1 + 400 = omega arith in rw f) ∙ ap later (sym (next_first y m n ge last))
      ]
    ]

in_2370 : date_of 146_097 ≡ record { year = 2370; month = 1; dom = 1 }
in_2370 =
    let date : Date = record { year = pos 2370; month = 1; day = 1; year_in = search rules; month_in = (omega arith, omega arith); day_in = (omega arith, omega arith) } in
    let count : day_count (pos 2370) 1 1 ≡ 4_518_050 = day_count-early (pos 2370) 12369 1 1 refl (omega arith) (omega arith) (omega arith) in
    let number : epoch_day date ≡ pos 146_097 = omega (arith, signed_arith, count, days_from_civil-day_count (pos 2370) 1 1) in
    date_at 146_097 date 2370 (omega arith) refl number

at_first : date_of 0 ≡ record { year = 1970; month = 1; dom = 1 }
unfolding date_of
at_first = refl

date_again : (n : ℕ) → date_of (n + 146_097) ≡ later (date_of n)
date_again zero = rw at_first in_2370
date_again (suc n) =
    let e : suc n + 146_097 ≡ n + 146_097 + 1 = omega arith in
    let f : suc n ≡ n + 1 = omega arith in
    rw (e, f, date_of-next (n + 146_097), date_of-next n, date_again n) (next_again (date_of n))

kind_later : (n : ℕ) → kind (n + 146_097) ≡ kind n
kind_later n =
    let weekday : (n + 146_097 + 4) % 7 ≡ (n + 4) % 7 = omega arith in
    rw (weekday, date_again n)

many_later : (times n : ℕ) → kind (n + 146_097 * times) ≡ kind n
many_later zero n = let e : n + 146_097 * 0 ≡ n = omega arith in rw e
many_later (suc times) n =
    let e : n + 146_097 * suc times ≡ n + 146_097 * times + 146_097 = omega arith in
    rw (e, kind_later (n + 146_097 * times)) (many_later times n)

pub kind_again : (n : ℕ) → kind (n % 146_097) ≡ kind n
kind_again n =
    let e : n ≡ n % 146_097 + 146_097 * (n / 146_097) = omega arith in
    sym (many_later (n / 146_097) (n % 146_097)) ∙ ap kind (sym e)
