-- Two jobs whose windows hold one minute.
use Rattle.std.specs.Prelude.{◌≡◌, ℕ, ◌+◌, ◌-◌, ◌==◌, ◌^◌, min, Bool, true, [], ◌∷◌, Option, None, Some, slice_get}
use Rattle.std.specs.List.{list_any}
use Rattle.cs_civil.specs.Calendar.{Kind, four_days}
use Rattle.cs_zone.specs.Starts.{is_due}
use Rattle.cs_zone.specs.Zone.{no_zone}
use Rattle.cs_crontab.specs.Crontab.{CommandLine}
use Rattle.cs_crontab.specs.declared.table.When.{When}
use Rattle.cs_crontab.specs.declared.table.When.TheVariants.{At, Reboot}
use Rattle.cs_plan.specs.Plan.{Declared, job_at}
use Rattle.cs_windows.specs.Window.{touches}
use Rattle.cs_windows.specs.Windows.{Job, windows_on}
use Rattle.cs_diff.specs.declared.meeting.Meeting.{Meeting}

-- from each minute on that the fields list (crontab(5)), without changes of the zone's clock; none
-- for `@reboot`
abbrev pub windows_at : When → ℕ → Job Kind
windows_at (At times) max = record { begins = is_due no_zone times; lasts = max }
windows_at Reboot max = record { begins = λ day minute. minute == 1_440; lasts = 0 }

-- each day from the first catch-up minute to the end of a run that starts in the last one
abbrev pub catch_up : Declared → ℕ → Job Kind
catch_up d max = record {
  begins = λ day minute. minute == d.hours.from;
  lasts = min (d.hours.to - 1 - d.hours.from + max) (2 ^ 16 - 1);
}

abbrev pub windows_of : Declared → Option CommandLine → ℕ → Job Kind
windows_of d (Some line) max = windows_at line.when max
windows_of d None max = catch_up d max

-- the windows of a job, as long as its longest time
abbrev pub windows_by : Declared → ℕ → Job Kind
windows_by d job = windows_of d (slice_get d.crontab.lines job) (job_at d job).max

-- a window of the job holds the minute of the day
abbrev pub is_held : Declared → ℕ → ℕ → ℕ → Bool
is_held d job day minute =
    list_any (λ w. touches w minute (minute + 1))
    (windows_on (windows_by d job ∷ []) (four_days day))

-- windows of both hold the minute
abbrev pub IsMeeting : Declared → Meeting → Type 0
IsMeeting d m = (is_held d m.one m.day m.minute ≡ true) × (is_held d m.other m.day m.minute ≡ true)
