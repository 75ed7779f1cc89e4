-- The windows of jobs on successive days. A day may be known by its kind, or by a class of kinds.
use Rattle.std.specs.Prelude.{ℕ, ◌+◌, ◌*◌, ◌<◌, ◌≡◌, Bool, true, List, [], ◌∷◌, ◌++◌, if◌then◌else◌, flat_map, filter, length, slice_get, Some}
use Rattle.std.specs.List.{range_with_len}
use Rattle.cs_windows.specs.declared.window.Window.{Window}
use Rattle.cs_civil.specs.declared.minute.TheConstants.{MINUTES_OF_DAY}
use Rattle.cs_windows.specs.Window.{window, reaches}

-- a job as its windows see it: whether one begins at a minute of such a day, and how many minutes
-- each lasts
pub record Job (D : Type 0) : Type 0 where
  pub begins : D → ℕ → Bool
  pub lasts : ℕ

-- the windows that begin at one minute of a day, by job; the first of the list has this number
abbrev pub starting : {D : Type 0} → D → ℕ → ℕ → ℕ → List (Job D) → List Window
starting day back minute number [] = []
starting day back minute number (job ∷ jobs) =
    if job.begins day minute
    then window number back minute job.lasts ∷ starting day back minute (number + 1) jobs
    else starting day back minute (number + 1) jobs

unfoldable pub day_minutes : List ℕ
day_minutes = range_with_len 0 MINUTES_OF_DAY

-- the windows that begin on a day, by start, then job
abbrev pub windows_from : {D : Type 0} → List (Job D) → D → ℕ → List Window
windows_from jobs day back = flat_map (λ minute. starting day back minute 0 jobs) day_minutes

-- the windows begun on successive days, eldest first, that reach the last, by start, then job
abbrev pub windows_on : {D : Type 0} → List (Job D) → List D → List Window
windows_on jobs [] = []
windows_on jobs (day ∷ days) =
    filter reaches (windows_from jobs day (length days)) ++ windows_on jobs days

-- the window is of the job at its place, begins on that day before the last, and reaches the last
pub record IsWindowOn {D : Type 0} (jobs : List (Job D)) (days : List D) (w : Window) : Type 0 where
  pub job : Job D
  pub of_job : slice_get jobs w.job ≡ Some job
  pub place : ℕ
  pub back : place + w.day_back + 1 ≡ length days
  pub day : D
  pub on_day : slice_get days place ≡ Some day
  pub minute : w.from < MINUTES_OF_DAY
  pub begins : job.begins day w.from ≡ true
  pub lasts : w.reach ≡ job.lasts
  pub holds_some : 0 < w.reach
  pub ends_later : MINUTES_OF_DAY * w.day_back < w.from + w.reach
