use Rattle.std.specs.Prelude.{◌==◌}
use Rattle.cs_civil.specs.Calendar.{Kind}
use Rattle.cs_zone.specs.Starts.{is_due}
use Rattle.cs_windows.specs.declared.job_windows.Occupied.{Occupied}
use Rattle.cs_windows.specs.declared.job_windows.Occupied.TheVariants.{Cron, CatchUp}
use Rattle.cs_windows.specs.Windows.{Job}

-- a window begins where the schedule is due by the clock of the zone, or at one minute of every day
abbrev pub job_of : Occupied → Job Kind
job_of (Cron schedule zone reach) = record { begins = is_due zone.now schedule.now; lasts = reach }
job_of (CatchUp from reach) = record { begins = λ day minute. minute == from; lasts = reach }
