-- Dates, weekdays and kinds of days, by day number: day 0 is 1 January 1970, a Thursday.
use Rattle.std.specs.Prelude.{ℕ, zero, suc, ◌+◌, ◌-◌, ◌%◌, ◌≡◌, ◌<◌, ◌≤◌, ◌==◌, ◌&&◌, nat_lt, if◌then◌else◌, List, [], ◌∷◌, map, pos}
use Rattle.jiff_core.specs.Calendar.{days_in_month}

pub record CivilDate : Type 0 where
  pub year : ℕ
  pub month : ℕ
  pub dom : ℕ

-- the next day of its month, else the first of the next month, else 1 January
abbrev pub next_date : CivilDate → CivilDate
next_date d =
    if nat_lt d.dom (days_in_month (pos d.year) d.month)
    then record { year = d.year; month = d.month; dom = d.dom + 1 }
    else (if nat_lt d.month 12 then record { year = d.year; month = d.month + 1; dom = 1 }
    else record { year = d.year + 1; month = 1; dom = 1 })

-- day 0 is 1 January 1970
unfoldable pub date_of : ℕ → CivilDate
date_of zero = record { year = 1970; month = 1; dom = 1 }
date_of (suc n) = next_date (date_of n)

-- Sunday is 0; day 0 is a Thursday
abbrev pub weekday_of : ℕ → ℕ
weekday_of n = (n + 4) % 7

-- what a schedule sees of a day: month from 1, day of the month from 1, weekday from 0 for Sunday
pub record Kind : Type 0 where
  pub month : ℕ
  pub dom : ℕ
  pub dow : ℕ

abbrev pub kind : ℕ → Kind
kind n = record { month = (date_of n).month; dom = (date_of n).dom; dow = weekday_of n }

-- a day and the three days before it, eldest first
unfoldable pub four_days : ℕ → List Kind
four_days n = map kind ((n - 3) ∷ (n - 2) ∷ (n - 1) ∷ n ∷ [])

abbrev pub longest : ℕ → ℕ
longest m = days_in_month (pos 2000) m

-- the 2,562 kinds of days
pub record IsKind (k : Kind) : Type 0 where
  pub month : (1 ≤ k.month) × (k.month ≤ 12)
  pub dom : (1 ≤ k.dom) × (k.dom ≤ longest k.month)
  pub dow : k.dow < 7

-- the days of the year that can follow one: after 28 February either 29 February or 1 March
abbrev pub days_after : ℕ → ℕ → List (ℕ × ℕ)
days_after m d =
    if (m == 2) && (d == 28) then (2, 29) ∷ (3, 1) ∷ []
    else (if nat_lt d (longest m) then (m, d + 1) ∷ [] else (m % 12 + 1, 1) ∷ [])

-- the kinds that can follow one: the next weekday, and a day of the year that can follow
abbrev pub kinds_after : Kind → List Kind
kinds_after k = map (λ (p : ℕ × ℕ). record { month = p.0; dom = p.1; dow = (k.dow + 1) % 7 })
    (days_after k.month k.dom)

-- the second kind follows the first within n days: one of the days 1 to n, where day 1 is
-- 1970-01-02, has the first kind, and the next day has the second
abbrev pub ComesWithin : ℕ → Kind → Kind → Type 0
ComesWithin n before after =
    (eve : ℕ) × (1 ≤ eve) × (eve ≤ n) × (kind eve ≡ before) × (kind (eve + 1) ≡ after)

-- 9999-12-31, the last day that four digits of a year can write
abbrev pub last_day : ℕ
last_day = 2_932_896

-- 1970-01-02 00:00: a day has 1,440 minutes
abbrev pub first_minute : ℕ
first_minute = 1_440

-- 9999-12-31 23:59
abbrev pub last_minute : ℕ
last_minute = 4_223_371_679
