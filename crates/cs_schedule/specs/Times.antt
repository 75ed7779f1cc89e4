-- When a command is due (crontab(5)).
use Rattle.std.specs.Prelude.{ℕ, Bool, List, All, ◌≤◌, ◌&&◌, ◌||◌, if◌then◌else◌, ◌+◌, ◌/◌, ◌%◌}
use Rattle.cs_civil.specs.Calendar.{Kind}
use Rattle.cs_schedule.specs.declared.part.Part.{Part}
use Rattle.cs_schedule.specs.declared.part.Part.TheVariants.{Minute, Hour, Dom, Month, Dow}
use Rattle.cs_schedule.specs.Minutes.{is_shown}
use Rattle.cs_schedule.specs.Numbers.{has}
use Rattle.cs_schedule.specs.Part.{first_of}

-- a field: whether its text begins with `*`, and its numbers, rising
pub record Choice : Type 0 where
  pub star : Bool
  pub numbers : List ℕ

pub record Times : Type 0 where
  pub minute : Choice
  pub hour : Choice
  pub dom : Choice
  pub month : Choice
  pub dow : Choice

abbrev pub times : Choice → Choice → Choice → Choice → Choice → Times
times minute hour dom month dow =
    record { minute = minute; hour = hour; dom = dom; month = month; dow = dow }

abbrev pub choice_of : Times → Part → Choice
choice_of s Minute = s.minute
choice_of s Hour = s.hour
choice_of s Dom = s.dom
choice_of s Month = s.month
choice_of s Dow = s.dow

-- the last number that a schedule holds: Sunday is held as 0
abbrev pub last_held : Part → ℕ
last_held Minute = 59
last_held Hour = 23
last_held Dom = 31
last_held Month = 12
last_held Dow = 6

abbrev pub IsWithin : Part → List ℕ → Type 0
IsWithin part numbers = All (λ n. (first_of part ≤ n) × (n ≤ last_held part)) numbers

pub record IsPossible (s : Times) : Type 0 where
  pub minute : IsWithin Minute s.minute.numbers
  pub hour : IsWithin Hour s.hour.numbers
  pub dom : IsWithin Dom s.dom.numbers
  pub month : IsWithin Month s.month.numbers
  pub dow : IsWithin Dow s.dow.numbers

-- the hour and the minute of the hour are listed
abbrev pub is_time_due : Times → ℕ → Bool
is_time_due s minute = has s.hour.numbers (minute / 60) && has s.minute.numbers (minute % 60)

-- a clock that is so many minutes ahead shows a time that is listed, from one time on and before
-- another
abbrev pub is_time_shown : Times → ℕ → ℕ → ℕ → ℕ → Bool
is_time_shown s turn from to minute =
    is_shown s.hour.numbers s.minute.numbers from to ((minute + turn) % 1440)

-- The month is listed, and so are the day of the month and the weekday; if neither of these two
-- fields begins with `*`, one of the two is enough.
abbrev pub is_day_due : Times → Kind → Bool
is_day_due s day =
    has s.month.numbers day.month
    && (if s.dom.star || s.dow.star then has s.dom.numbers day.dom && has s.dow.numbers day.dow
    else has s.dom.numbers day.dom || has s.dow.numbers day.dow)

-- due at this minute of a day of this kind
abbrev pub is_due : Times → Kind → ℕ → Bool
is_due s day minute = is_time_due s minute && is_day_due s day
