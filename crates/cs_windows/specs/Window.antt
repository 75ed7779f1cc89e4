-- One window, seen from the day looked at.
use Rattle.std.specs.Prelude.{ℕ, ◌+◌, ◌*◌, ◌≤◌, ◌<◌, ◌≡◌, Bool, ◌&&◌, nat_lt, max, min, AllPairs, List}
use Rattle.cs_windows.specs.declared.window.Window.{Window}
use Rattle.cs_civil.specs.declared.minute.TheConstants.{MINUTES_OF_DAY}

abbrev pub window : ℕ → ℕ → ℕ → ℕ → Window
window job back from reach = record { job = job; day_back = back; from = from; reach = reach }

-- the window holds this minute of the day looked at
abbrev pub Holds : Window → ℕ → Type 0
Holds w minute = (w.from ≤ minute + MINUTES_OF_DAY * w.day_back)
    × (minute + MINUTES_OF_DAY * w.day_back < w.from + w.reach)

-- whether the window holds a minute of [lo, hi) of the day looked at
abbrev pub touches : Window → ℕ → ℕ → Bool
touches w lo hi = nat_lt (max (lo + MINUTES_OF_DAY * w.day_back) w.from)
    (min (hi + MINUTES_OF_DAY * w.day_back) (w.from + w.reach))

-- whether the window holds a minute, and ends after the day looked at has begun
abbrev pub reaches : Window → Bool
reaches w = nat_lt 0 w.reach && nat_lt (MINUTES_OF_DAY * w.day_back) (w.from + w.reach)

-- the first window begins before the second, or at its minute for a job before the second's
pub record IsBefore (v w : Window) : Type 0 where
  pub start : v.from + MINUTES_OF_DAY * w.day_back ≤ w.from + MINUTES_OF_DAY * v.day_back
  pub job : v.from + MINUTES_OF_DAY * w.day_back ≡ w.from + MINUTES_OF_DAY * v.day_back
      → v.job < w.job

-- by start, then job
abbrev pub IsRising : List Window → Type 0
IsRising windows = AllPairs IsBefore windows
