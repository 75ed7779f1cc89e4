-- Changes of a table or of declarations.
use Rattle.std.specs.Prelude.{◌≡◌, ◌≢◌, ◌==◌, ◌+◌, ◌/◌, ◌%◌, ◌<◌, ℕ, Bool, List, Ok, false, length, true}
use Rattle.std.specs.Prelude.{if◌then◌else◌, slice_index_or}
use Rattle.cs_anacrontab.specs.Anacrontab.{Table as JobTable}
use Rattle.cs_civil.specs.Calendar.{kind}
use Rattle.cs_civil.specs.declared.minute.TheConstants.{MINUTES_OF_DAY}
use Rattle.cs_schedule.specs.Times.{is_due}
use Rattle.cs_crontab.specs.Crontab.{CommandLine, Table}
use Rattle.cs_crontab.specs.Faults.{IsCrontab}
use Rattle.cs_crontab.specs.declared.table.When.{When}
use Rattle.cs_crontab.specs.declared.table.When.TheVariants.{At, Reboot}
use Rattle.cs_decl.specs.Join.{joined}
use Rattle.cs_decl.specs.Meaning.{declared_by}
use Rattle.cs_plan.specs.Plan.{Declared, no_command}
use Rattle.cs_decl.specs.declared.entries.Entries.{Entries}
use Rattle.cs_advise.specs.Edit.{HasValue, IsPut}
use Rattle.cs_advise.specs.Replaced.{IsOtherLine}
use Rattle.cs_advise.specs.declared.change.Change.{Change}
use Rattle.cs_advise.specs.declared.change.Change.TheVariants.{Both, Member as Other}
use Rattle.cs_advise.specs.declared.change.Change.TheVariants.{Start as Alone}
use Rattle.cs_advise.specs.declared.change.Member.{Member}
use Rattle.cs_advise.specs.declared.change.Shift.{Shift}
use Rattle.cs_advise.specs.declared.source.Source.{Source}

-- The fields list a minute (crontab(5)). Minute 0 is 1970-01-01 00:00.
abbrev pub is_listed : When → ℕ → Bool
is_listed (At times) t = is_due times (kind (t / MINUTES_OF_DAY)) (t % MINUTES_OF_DAY)
is_listed Reboot t = false

-- From minute `minutes` on, the other is listed exactly `minutes` after each minute at which the one
-- is. Where a zone's clock jumps, cron(8) may start them otherwise.
abbrev pub IsLater : ℕ → When → When → Type 0
IsLater minutes one other = (t : ℕ) → is_listed other (t + minutes) ≡ is_listed one t

-- the starts come so many minutes later, or earlier
abbrev pub IsMovedBy : Bool → ℕ → When → When → Type 0
IsMovedBy true minutes old new = IsLater minutes old new
IsMovedBy false minutes old new = IsLater minutes new old

abbrev pub IsShifted : Shift → When → When → Type 0
IsShifted shift = IsMovedBy shift.is_later shift.minutes

abbrev pub unmoved : Shift
unmoved = record { is_later = true; minutes = 0 }

-- how a change shifts the starts of a cron job: by no minute, if it isn't about the job
abbrev pub shift_of : Change → ℕ → Shift
shift_of (Alone start) job = if start.job == job then start.shift else unmoved
shift_of (Both one other) job =
    if one.job == job then one.shift else (if other.job == job then other.shift else unmoved)
shift_of (Other member) job = unmoved

-- the same command on the same line, with shifted starts
pub record IsMovedLine (shift : Shift) (old new : CommandLine) : Type 0 where
  pub number : old.number ≡ new.number
  pub command : old.command ≡ new.command
  pub when : IsShifted shift old.when new.when

-- the same number of commands, each shifted as the change says
pub record AreMoved (change : Change) (old new : List CommandLine) : Type 0 where
  pub many : length old ≡ length new
  pub each : (j : ℕ) → j < length old
      → IsMovedLine (shift_of change j)
      (slice_index_or old j no_command) (slice_index_or new j no_command)

-- a crontab and declarations, whose texts these are, join with the anacrontab to the plan
pub record IsPlanOf (text declarations : List ℕ) (anacrontab : JobTable) (plan : Declared)
    : Type 0 where
  pub table : Table
  pub read : IsCrontab text table
  pub entries : Entries
  pub declared : declared_by declarations ≡ Ok entries
  pub joined : joined table anacrontab entries ≡ Ok plan

-- another text of the table has the same commands, with their starts shifted as the change says
pub record IsMoved (source : Source) (plan : Declared) (change : Change) (text : List ℕ)
    (moved : Declared) : Type 0 where
  pub read : IsPlanOf text source.declarations plan.anacrontab moved
  pub commands : AreMoved change plan.crontab.lines moved.crontab.lines

-- Declarations with the pasted text have the value, which the old plan lacks.
pub record IsEdited (source : Source) (plan : Declared) (member : Member) (pasted : List ℕ)
    (edited : Declared) : Type 0 where
  pub text : List ℕ
  pub put : IsPut member source.declarations pasted text
  pub read : IsPlanOf source.table text plan.anacrontab edited
  pub has : HasValue edited member
  pub had : ¬ (HasValue plan member)

-- The changed plan is that of a table with one or two other lines, or that of other declarations.
abbrev pub IsChanged : Source → Declared → Change → List ℕ → Declared → Type 0
IsChanged source plan (Alone start) pasted changed =
    (text : List ℕ) × IsOtherLine source.table start.line text
    × IsMoved source plan (Alone start) text changed
IsChanged source plan (Both one other) pasted changed =
    (first : List ℕ) × (text : List ℕ) × IsOtherLine source.table one.line first
    × IsOtherLine first other.line text × (one.job ≢ other.job)
    × IsMoved source plan (Both one other) text changed
IsChanged source plan (Other member) pasted changed = IsEdited source plan member pasted changed
