-- The windows that begin on one day, linked: those of a minute one after another, by job.
use Rattle.std.specs.Prelude.{ℕ, ◌+◌, ◌<◌, ◌≤◌, ◌≡◌, ◌&&◌, Bool, nat_lt, if◌then◌else◌, List, [], ◌∷◌, Some, filter, slice_get, slice_index}
use Rattle.cs_civil.specs.Calendar.{Kind}
use Rattle.cs_civil.specs.declared.minute.TheConstants.{MINUTES_OF_DAY}
use Rattle.cs_windows.specs.declared.links.Link.{Link}
use Rattle.cs_windows.specs.declared.window.Window.{Window}
use Rattle.cs_windows.specs.Window.{window, reaches}
use Rattle.cs_windows.specs.Windows.{Job, starting}

-- The windows from one link on. Links are counted from 1, and 0 follows the last of a minute.
abbrev pub AreLinked : List Link → ℕ → List Window → Type 0
AreLinked links first [] = first ≡ 0
AreLinked links first (w ∷ ws) = (place : ℕ) × (first ≡ place + 1) × (next : ℕ) × (next ≤ place)
    × (slice_get links place ≡ Some (record { window = w; next = next })) × AreLinked links next ws

-- at each minute of a day, the windows of these jobs that begin and reach a day so many days later
abbrev pub AreBegun : List Link → List ℕ → Kind → ℕ → ℕ → List (Job Kind) → Type 0
AreBegun links firsts day back number jobs = (minute : ℕ) → minute < MINUTES_OF_DAY
    → AreLinked links (slice_index firsts minute)
    (filter reaches (starting day back minute number jobs))

-- the windows of a minute, with that of one job before them where the minute is below an end
abbrev pub with_own : (ℕ → Bool) → Window → ℕ → ℕ → List Window → List Window
with_own begins w end minute ws =
    if nat_lt minute end && (begins minute && reaches (window w.job w.day_back minute w.reach))
    then window w.job w.day_back minute w.reach ∷ ws else ws
