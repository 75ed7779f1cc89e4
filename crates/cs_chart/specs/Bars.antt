-- The bars of a job, and the minutes in its windows.
use Rattle.std.specs.Prelude.{◌≡◌, ℕ, ◌+◌, ◌-◌, ◌*◌, ◌/◌, ◌%◌, ◌<◌, ◌≤◌, ◌⊎◌, min, max, Bool, true, ◌&&◌, List, [], ◌∷◌, All, nat_le, nat_lt}
use Rattle.std.specs.List.{list_any}
use Rattle.cs_civil.specs.Calendar.{Kind, four_days, last_day}
use Rattle.cs_chart.specs.declared.bar.Bar.{Bar}
use Rattle.cs_windows.specs.declared.window.Window.{Window}
use Rattle.cs_civil.specs.declared.minute.TheConstants.{MINUTES_OF_DAY}
use Rattle.cs_windows.specs.Windows.{Job, windows_on}

-- successive days
pub record Days : Type 0 where
  pub first : ℕ
  pub days : ℕ

-- the days that a picture may have: windows of the first may begin three days before it
pub record AreShown (s : Days) : Type 0 where
  pub early : 3 ≤ s.first
  pub some : 1 ≤ s.days
  pub few : s.days ≤ 7
  pub late : s.first + s.days ≤ last_day + 1

-- so many days, one to seven, from 1970-01-04 to 9999-12-31
abbrev pub days_shown : ℕ → ℕ → Days
days_shown from count = record {
  first = max from 3;
  days = min (max 1 (min count 7)) (last_day - max from 3 + 1);
}

abbrev pub covers : Bar → ℕ → Bool
covers bar minute = nat_le bar.from minute && nat_lt minute bar.to

abbrev pub is_covered : List Bar → ℕ → Bool
is_covered bars minute = list_any (λ bar. covers bar minute) bars

-- the window holds this minute of the day
abbrev pub holds : ℕ → Window → Bool
holds minute w = nat_le w.from (minute + MINUTES_OF_DAY * w.day_back)
    && nat_lt (minute + MINUTES_OF_DAY * w.day_back) (w.from + w.reach)

-- the minute is in the day that begins at `start`, and one of that day's windows holds it
abbrev pub is_held_on : ℕ → List Window → ℕ → Bool
is_held_on start windows minute =
    (nat_le start minute && nat_lt minute (start + MINUTES_OF_DAY))
    && list_any (holds (minute - start)) windows

-- A window of the job holds this minute, counted from the start of a day. The window is of the
-- minute's own day, or began up to three days before.
abbrev pub is_occupied : Job Kind → ℕ → ℕ → Bool
is_occupied job first minute =
    list_any (holds (minute % MINUTES_OF_DAY))
    (windows_on (job ∷ []) (four_days (first + minute / MINUTES_OF_DAY)))

-- a window of the job holds this minute of the picture
unfoldable pub is_held : Days → Job Kind → ℕ → Bool
is_held days job minute =
    nat_lt minute (MINUTES_OF_DAY * days.days) && is_occupied job days.first minute

-- the minute is between two that are held, with fewer than `gap` minutes between these
pub record IsInGap (held : ℕ → Bool) (gap minute : ℕ) : Type 0 where
  pub before : ℕ
  pub behind : ℕ
  pub held_before : held before ≡ true
  pub held_behind : held behind ≡ true
  pub above : before < minute
  pub below : minute < behind
  pub near : behind ≤ before + gap

-- the bar begins and ends with a minute that is held, and passes only over such gaps
pub record IsBarOf (held : ℕ → Bool) (gap : ℕ) (bar : Bar) : Type 0 where
  pub some : bar.from < bar.to
  pub first : held bar.from ≡ true
  pub last : held (bar.to - 1) ≡ true
  pub near : (minute : ℕ) → covers bar minute ≡ true
      → (held minute ≡ true) ⊎ IsInGap held gap minute

-- The bars cover each minute that is held, and besides only gaps.
pub record AreBarsOf (held : ℕ → Bool) (gap : ℕ) (bars : List Bar) : Type 0 where
  pub whole : (minute : ℕ) → held minute ≡ true → is_covered bars minute ≡ true
  pub each : All (IsBarOf held gap) bars
