-- The next starts of the jobs of two tables.
use Rattle.std.specs.Prelude.{ℕ, ◌+◌, ◌-◌, ◌*◌, ◌/◌, ◌%◌, ◌==◌, ◌||◌, Bool, false, List, [], ◌∷◌, ◌++◌, flat_map, map, min, nat_lt, take, if◌then◌else◌, Option, None, Some}
use Rattle.std.specs.List.{filter_map, range_with_len}
use Rattle.cs_civil.specs.Calendar.{Kind, kind, last_day, last_minute}
use Rattle.cs_zone.specs.Starts.{is_due}
use Rattle.cs_zone.specs.Zone.{no_zone}
use Rattle.cs_crontab.specs.Crontab.{CommandLine}
use Rattle.cs_crontab.specs.declared.table.When.{When}
use Rattle.cs_crontab.specs.declared.table.When.TheVariants.{At, Reboot}
use Rattle.cs_anacrontab.specs.Anacrontab.{JobLine}
use Rattle.cs_anacrontab.specs.declared.period.Period.{Period}
use Rattle.cs_anacrontab.specs.declared.period.Period.TheVariants.{Days, Monthly}
use Rattle.cs_windows.specs.declared.window.Window.{Window}
use Rattle.cs_windows.specs.Windows.{Job, windows_on}
use Rattle.cs_next.specs.declared.starts.Start.{Start}
use Rattle.cs_next.specs.declared.starts.TheConstants.{DAYS}

-- on the first day, and then after each period of so many days
abbrev pub comes_after : ℕ → ℕ → ℕ → Bool
comes_after count first day = (day - first) % count == 0

-- on the first day, and then on the first day of each month
abbrev pub comes_monthly : ℕ → ℕ → Bool
comes_monthly first day = (day == first) || ((kind day).dom == 1)

-- the first minute of the day that counts; 1,440, which no day has, if the job doesn't start
abbrev pub catch_up : Bool → ℕ → ℕ → ℕ
catch_up comes from day =
    if comes then (if day == from / 1_440 then from % 1_440 else 0) else 1_440

abbrev pub caught_up : Bool → ℕ → ℕ → Job Kind
caught_up comes from day =
    record { begins = λ _ minute. minute == catch_up comes from day; lasts = 1 }

abbrev pub comes : Period → ℕ → ℕ → Bool
comes (Days count) first day = comes_after count first day
comes Monthly first day = comes_monthly first day

abbrev pub due_at : ℕ → ℕ → When → Job Kind
due_at from day (At schedule) = record { begins = is_due no_zone schedule; lasts = 1 }
due_at from day Reboot = caught_up false from day

-- the minutes of a day at which a line of the crontab starts, as windows of a minute
abbrev pub line_starts : ℕ → ℕ → CommandLine → Job Kind
line_starts from day line = due_at from day line.when

-- the same of an anacron job, as if it had never run before the first day
abbrev pub job_starts : ℕ → ℕ → JobLine → Job Kind
job_starts from day job = caught_up (comes job.period (from / 1_440) day) from day

abbrev pub starts_on : ℕ → ℕ → List CommandLine → List JobLine → List (Job Kind)
starts_on from day lines jobs =
    map (line_starts from day) lines ++ map (job_starts from day) jobs

-- none before the first minute that counts
abbrev pub start_of : ℕ → ℕ → Window → Option Start
start_of from day window =
    if nat_lt (1_440 * day + window.from) from || nat_lt last_minute (1_440 * day + window.from)
    then None else Some (record { minute = 1_440 * day + window.from; job = window.job })

-- the starts of a day, by minute, then by job
abbrev pub starts_of_day : ℕ → List CommandLine → List JobLine → ℕ → List Start
starts_of_day from lines jobs day =
    filter_map (start_of from day) (windows_on (starts_on from day lines jobs) (kind day ∷ []))

-- 28 years, up to 9999-12-31
abbrev pub days_from : ℕ → ℕ
days_from from = min DAYS (last_day + 1 - from / 1_440)

-- the first so many of all starts of these days
abbrev pub next_starts : List CommandLine → List JobLine → ℕ → ℕ → List Start
next_starts lines jobs from count = take count
    (flat_map (starts_of_day from lines jobs) (range_with_len (from / 1_440) (days_from from)))
