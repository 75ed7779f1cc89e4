-- A plan: two tables, and what the operator declares of them.
use Rattle.std.specs.Prelude.{◌≡◌, ◌≢◌, ℕ, ℤ, unsigned_abs, ◌-◌, ◌/◌, ◌%◌, ◌<◌, ◌≤◌, Bool, false, List, ◌++◌, [], map, drop, length, slice_index_or, All, AllPairs, Option, None, IfSome}
use Rattle.std.specs.List.{range_with_len}
use Rattle.cs_civil.specs.Calendar.{kind}
use Rattle.cs_civil.specs.Hours.{CatchUpHours, ArePossible}
use Rattle.cs_zone.specs.Starts.{is_due as is_time_due}
use Rattle.cs_zone.specs.Zone.{Zone}
use Rattle.cs_crontab.specs.Crontab.{Table as Crontab, CommandLine}
use Rattle.cs_crontab.specs.declared.table.When.{When}
use Rattle.cs_crontab.specs.declared.table.When.TheVariants.{At, Reboot}
use Rattle.cs_crontab.specs.declared.limits.TheConstants.{MAX_COMMANDS}
use Rattle.cs_anacrontab.specs.Anacrontab.{Table as Anacrontab, JobLine, IsPossible as IsPossibleLine}
use Rattle.cs_anacrontab.specs.Period.{is_due as is_period_over}
use Rattle.cs_anacrontab.specs.declared.period.Period.TheVariants.{Monthly}
use Rattle.cs_anacrontab.specs.declared.limits.TheConstants.{MAX_JOBS}
use Rattle.cs_history.specs.Plan.{Plan}
use Rattle.cs_history.specs.declared.mode.Mode.TheVariants.{Plain}
use Rattle.cs_plan.specs.Job.{DeclaredJob, IsPossible}
use Rattle.cs_plan.specs.declared.clocks.ClockNames.{ClockNames}
use Rattle.cs_civil.specs.declared.minute.TheConstants.{MINUTES_OF_DAY}
use Rattle.cs_plan.specs.declared.limits.TheConstants.{MAX_CAPACITY, MAX_GROUPS, MAX_OFFSET}

-- a group, and whether its runs exclude one another
pub record DeclaredGroup : Type 0 where
  pub name : List ℕ
  pub exclusive : Bool

-- The jobs are those of the crontab, then those of the anacrontab, each in order of line. The
-- crontab has none of the lines that are left out. The pass minute is one of the day, and the
-- offset counts minutes east of UTC. Commands are due by the clock of the zone, which is seen from
-- the clock at this offset; if the declarations name a zone, both clocks have names. So many jobs
-- have the default, and so many entries are a guess. An untimed line has an entry with its command
-- and no schedule, while another line has that command too. A doubled member stands twice in an
-- object of the declarations' text.
pub record Declared : Type 0 where
  pub crontab : Crontab
  pub anacrontab : Anacrontab
  pub jobs : List DeclaredJob
  pub groups : List DeclaredGroup
  pub capacity : ℕ
  pub hours : CatchUpHours
  pub pass : Option ℕ
  pub offset : ℤ
  pub zone : Zone
  pub clocks : Option ClockNames
  pub left_out : List ℕ
  pub defaulted : ℕ
  pub guessed : ℕ
  pub untimed : Option ℕ
  pub doubled : Option (List ℕ)

abbrev pub crons : Declared → ℕ
crons d = length d.crontab.lines

-- the command is started at minutes, not at startup
abbrev pub IsTimed : CommandLine → Type 0
IsTimed line = line.when ≢ Reboot

abbrev pub places_of : {A : Type 0} → List A → List ℕ
places_of lines = range_with_len 0 (length lines)

abbrev pub IsListed : ℕ → DeclaredJob → Type 0
IsListed groups job = IfSome job.group (λ g. g < groups)

-- each line of the tables has its job, each number is in its range, and each group is there
pub record IsWhole (d : Declared) : Type 0 where
  pub few_commands : crons d ≤ MAX_COMMANDS
  pub few_lines : length d.anacrontab.lines ≤ MAX_JOBS
  pub timed : All IsTimed d.crontab.lines
  pub lines : All IsPossibleLine d.anacrontab.lines
  pub places : map (λ job. job.place) d.jobs
      ≡ places_of d.crontab.lines ++ places_of d.anacrontab.lines
  pub possible : All IsPossible d.jobs
  pub plain : All (λ job. job.mode ≡ Plain) (drop (crons d) d.jobs)
  pub listed : All (IsListed (length d.groups)) d.jobs
  pub few_groups : length d.groups ≤ MAX_GROUPS
  pub names : AllPairs (λ x y. x.name ≢ y.name) d.groups
  pub capacity : (1 ≤ d.capacity) × (d.capacity ≤ MAX_CAPACITY)
  pub hours : ArePossible d.hours
  pub pass : IfSome d.pass (λ m. m < MINUTES_OF_DAY)
  pub offset : unsigned_abs d.offset ≤ MAX_OFFSET

-- ---- what a history sees of a plan

-- the values for no job, no line and no group
abbrev pub no_job : DeclaredJob
no_job = record { place = 0; max = 1; weight = 1; group = None; mode = Plain }

abbrev pub no_command : CommandLine
no_command = record { number = 0; when = Reboot; command = [] }

abbrev pub no_line : JobLine
no_line = record { number = 0; period = Monthly; delay = 0; identifier = []; command = [] }

abbrev pub no_group : DeclaredGroup
no_group = record { name = []; exclusive = false }

abbrev pub job_at : Declared → ℕ → DeclaredJob
job_at d j = slice_index_or d.jobs j no_job

-- the number of a cron job is its line's place in the crontab
abbrev pub command_of : Declared → ℕ → CommandLine
command_of d j = slice_index_or d.crontab.lines j no_command

-- anacron jobs come after those of the crontab
abbrev pub line_of : Declared → ℕ → JobLine
line_of d j = slice_index_or d.anacrontab.lines (j - crons d) no_line

-- a command is due when cron(8) starts it by the clock of the zone, by the kind of the day
abbrev pub is_due : Zone → When → ℕ → Bool
is_due zone (At schedule) t =
    is_time_due zone schedule (kind (t / MINUTES_OF_DAY)) (t % MINUTES_OF_DAY)
is_due zone Reboot t = false

abbrev pub as_plan : Declared → Plan
as_plan d = record {
  crons = crons d;
  jobs = length d.jobs;
  limit = λ j. (job_at d j).max;
  weight = λ j. (job_at d j).weight;
  group = λ j. (job_at d j).group;
  mode = λ j. (job_at d j).mode;
  due = λ j t. is_due d.zone (command_of d j).when t;
  owed = λ j stamp day. is_period_over (line_of d j).period stamp day;
  delay = λ j. (line_of d j).delay;
  groups = length d.groups;
  exclusive = λ g. (slice_index_or d.groups g no_group).exclusive;
  capacity = d.capacity;
  from = d.hours.from;
  to = d.hours.to;
  pass_minute = d.pass;
}
