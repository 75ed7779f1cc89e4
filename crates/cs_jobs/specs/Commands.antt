-- What a runner is asked for the run of a job.
use Rattle.std.specs.Prelude.{◌≡◌, ◌≤◌, ◌⊎◌, ℕ, ◌+◌, ◌-◌, if◌then◌else◌, List, length, map, All, Option, Some, None, option_map, slice_get}
use Rattle.cs_table.specs.Environment.{Variable, IsLast, above, first_places, names_of}
use Rattle.cs_table.specs.Setting.{SettingLine}
use Rattle.cs_crontab.specs.Command.{AreParts}
use Rattle.cs_crontab.specs.Crontab.{CommandLine, Table as Crontab}
use Rattle.cs_anacrontab.specs.Anacrontab.{JobLine, Table as Anacrontab}
use Rattle.cs_owner.specs.declared.owners.Owner.{Owner}
use Rattle.cs_plan.specs.Plan.{Declared, as_plan, crons}
use Rattle.cs_history.specs.Step.{is_civil}
use Rattle.cs_history.specs.declared.run.Going.{Going}
use Rattle.cs_device.specs.Asked.{Asked}
use Rattle.cs_device.specs.declared.runner.Outcome.{Outcome}
use Rattle.cs_device.specs.declared.runner.Outcome.TheVariants.{NotStarted}
use Rattle.cs_jobs.specs.Names.{run_name}

-- each name that is set, in order, with its last value (crontab(5))
pub record AreSet (settings : List SettingLine) (variables : List Variable) : Type 0 where
  pub names : map (λ v. v.0) variables ≡ first_places (names_of settings)
  pub values : All (IsLast settings) variables

abbrev pub settings_for : Crontab → Option Owner → List SettingLine
settings_for table None = table.settings
settings_for table (Some owner) = owner.settings

-- a cron job: the user of its owner, the command and the input of its line, the settings above it
pub record IsOfCommand (table : Crontab) (owner : Option Owner) (line : CommandLine) (asked : Asked)
    : Type 0 where
  pub user : asked.user ≡ option_map (λ o. o.user) owner
  pub parts : AreParts line.command (asked.command, asked.input)
  pub variables : AreSet (above line.number (settings_for table owner)) asked.variables

-- an anacron job: no user, the command of its line as it stands, no input, the settings above it
pub record IsOfJob (table : Anacrontab) (line : JobLine) (asked : Asked) : Type 0 where
  pub user : asked.user ≡ None
  pub command : asked.command ≡ line.command
  pub input : asked.input ≡ None
  pub variables : AreSet (above line.number table.settings) asked.variables

-- what is asked for a job of the plan; the crontab's jobs come first, in the order of the owners
abbrev pub IsForJob : Declared → List Owner → ℕ → Asked → Type 0
IsForJob d owners job asked =
    ((line : CommandLine) × (slice_get d.crontab.lines job ≡ Some line)
    × IsOfCommand d.crontab (slice_get owners job) line asked)
    ⊎ ((line : JobLine) × (crons d ≤ job)
    × (slice_get d.anacrontab.lines (job - crons d) ≡ Some line) × IsOfJob d.anacrontab line asked)

-- none outside 1970-01-02 to 9999-12-31
abbrev pub civil : ℕ → Option ℕ
civil t = if is_civil t then Some t else None

-- a run must have ended by then: its declared time after it began, or got its lock
abbrev pub until_of : Declared → Going → Option ℕ
until_of d going = civil (going.since + (as_plan d).limit going.run.job)

-- the same for a run of it, under the run's name, with its deadline
abbrev pub IsFor : Declared → List Owner → Going → Asked → Type 0
IsFor d owners going asked = (asked.name ≡ run_name d going.run)
    × (asked.until ≡ until_of d going) × IsForJob d owners going.run.job asked

abbrev pub IsPast : Declared → ℕ → Type 0
IsPast d job = crons d + length d.anacrontab.lines ≤ job

module _ {W : Type 0} (runs : W → Asked → Outcome → W → Type 0) (d : Declared)
    (owners : List Owner) where
  -- the runner runs the command of the run's job, under the run's name, once, and nothing else; if
  -- there is no such job, it runs nothing, and the run isn't started
  abbrev pub RunsJob : Going → W → Outcome → W → Type 0
  RunsJob going old outcome new =
      ((asked : Asked) × IsFor d owners going asked × runs old asked outcome new)
      ⊎ (IsPast d going.run.job × (outcome ≡ NotStarted) × (new ≡ old))
