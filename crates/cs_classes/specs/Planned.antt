use Rattle.std.specs.Prelude.{◌≡◌, ◌<◌, ℕ, Bool, false, ◌==◌, List, map, if◌then◌else◌, length, unwrap_or}
use Rattle.cs_civil.specs.Calendar.{Kind}
use Rattle.cs_schedule.specs.Times.{Times}
use Rattle.cs_zone.specs.Starts.{is_due as is_time_due}
use Rattle.cs_zone.specs.Zone.{Zone}
use Rattle.cs_crontab.specs.declared.table.When.{When}
use Rattle.cs_crontab.specs.declared.table.When.TheVariants.{At, Reboot}
use Rattle.cs_history.specs.Calm.{reach}
use Rattle.cs_history.specs.Lists.{below}
use Rattle.cs_history.specs.Plan.{is_cron, waits_in}
use Rattle.cs_plan.specs.Plan.{Declared, as_plan, command_of, crons}
use Rattle.cs_plan.specs.Job.{DeclaredJob}
use Rattle.cs_windows.specs.Reach.{reach_of}
use Rattle.cs_windows.specs.Windows.{Job}
use Rattle.cs_windows.specs.declared.reach.JobReach.{JobReach}

-- whether cron(8) starts a command at a minute of a day of this kind, by the clock of the zone
abbrev pub is_due_on : Zone → When → Kind → ℕ → Bool
is_due_on zone (At schedule) kind minute = is_time_due zone schedule kind minute
is_due_on zone Reboot kind minute = false

-- the same of a cron job of the plan
abbrev pub due_on : Declared → ℕ → Kind → ℕ → Bool
due_on d j kind minute = is_due_on d.zone (command_of d j).when kind minute

-- the reach of a job that waits: the one that is listed, else its declared time
abbrev pub reach_by : Declared → List JobReach → ℕ → ℕ
reach_by d rs j = unwrap_or (reach_of rs j) ((as_plan d).limit j)

-- a cron job's window begins when the job is due, an anacron job's when the catch-up hours begin
abbrev pub begins_on : Declared → ℕ → Kind → ℕ → Bool
begins_on d j kind minute =
    if is_cron (as_plan d) j then due_on d j kind minute else (minute == d.hours.from)

abbrev pub planned_job : Declared → List JobReach → ℕ → Job Kind
planned_job d rs j = record { begins = begins_on d j; lasts = reach (as_plan d) (reach_by d rs) j }

abbrev pub planned : Declared → List JobReach → List (Job Kind)
planned d rs = map (planned_job d rs) (below (length d.jobs))

pub record IsSchedule (d : Declared) (j : ℕ) (schedule : Times) : Type 0 where
  pub cron : j < crons d
  pub when : (command_of d j).when ≡ At schedule

-- how long the windows of a cron job last, if it is declared so
abbrev pub cron_reach : List JobReach → ℕ → DeclaredJob → ℕ
cron_reach rs j job = if waits_in job.mode then unwrap_or (reach_of rs j) job.max else job.max
