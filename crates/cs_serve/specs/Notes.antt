-- What a daemon says of the jobs of its plan.
use Rattle.std.specs.Prelude.{ℕ, Bool, not, ◌&&◌, ◌||◌, if◌then◌else◌, List, [], ◌++◌, codes, drop, flat_map, length, map, slice_get, slice_index_or, ◌≡◌, Option, None, Some, option_and_then, option_map}
use Rattle.std.specs.List.{AllZip}
use Rattle.cs_crontab.specs.Crontab.{CommandLine}
use Rattle.cs_crontab.specs.declared.table.When.TheVariants.{At, Reboot}
use Rattle.cs_jobs.specs.Names.{job_front, job_name}
use Rattle.cs_plan.specs.Plan.{Declared, as_plan, job_at}
use Rattle.cs_history.specs.Lists.{below}
use Rattle.cs_history.specs.Plan.{Plan, is_cron, rivals, takes_lock}
use Rattle.cs_machine.specs.declared.setup.JobNote.{JobNote}
use Rattle.cs_owner.specs.declared.owners.Owner.{Owner}
use Rattle.cs_schedule.specs.declared.schedule.Schedule.{Schedule}

-- A run of the second job may meet a late run of the first: both belong to one exclusive group, not
-- both take its lock, and not both are of the anacrontab, of which one job runs at a time.
abbrev pub may_meet : Plan → ℕ → ℕ → Bool
may_meet p late other =
    rivals p late other && ((is_cron p late || is_cron p other)
    && not (takes_lock p late && takes_lock p other))

-- the name of such a job, after a comma
abbrev pub peer : Declared → ℕ → ℕ → List ℕ
peer d late other =
    if may_meet (as_plan d) late other then codes ", " ++ job_name d other else []

-- the names of such jobs, in their order, with commas between them
abbrev pub peers : Declared → ℕ → List ℕ
peers d late = drop 2 (flat_map (peer d late) (below (length d.jobs)))

abbrev pub schedule_in : CommandLine → Option Schedule
schedule_in line = elim line.when [ At schedule ↦ Some schedule | Reboot ↦ None ]

abbrev pub command_of : Declared → ℕ → List ℕ
command_of d job = slice_index_or
    (map (λ line. line.command) d.crontab.lines ++ map (λ line. line.command) d.anacrontab.lines)
    job []

-- the name of the clock by which the zone goes in the other part of the year
abbrev pub other_clock : Declared → List ℕ
other_clock d = elim d.clocks [ Some clocks ↦ clocks.other | None ↦ [] ]

-- commands of a gathered crontab have owners
abbrev pub user_of : List Owner → ℕ → Option (List ℕ)
user_of owners job = option_map (λ owner. owner.user) (slice_get owners job)

-- what the names of a job's runs begin with, its longest time, the minutes at which it is due by
-- the clock of the zone, which jobs' runs may meet a late run of it, its command and its user
pub record IsNote (d : Declared) (owners : List Owner) (job : ℕ) (note : JobNote) : Type 0 where
  pub front : note.front ≡ job_front d job
  pub max : note.max ≡ (job_at d job).max
  pub due : note.when ≡ option_and_then schedule_in (slice_get d.crontab.lines job)
  pub zone : note.zone ≡ d.zone
  pub other_clock : note.other_clock ≡ other_clock d
  pub peers : note.peers ≡ peers d job
  pub command : note.command ≡ command_of d job
  pub user : note.user ≡ user_of owners job

-- one for each job, in their order
abbrev pub AreNotes : Declared → List Owner → List JobNote → Type 0
AreNotes d owners notes = AllZip (IsNote d owners) (below (length d.jobs)) notes
