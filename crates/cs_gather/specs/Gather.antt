-- Tables of a machine as one user's table: what each adds, and what the text says.
use Rattle.std.specs.Prelude.{◌≡◌, ℕ, ◌+◌, ◌-◌, ◌⊎◌, true, List, [], ◌∷◌, ◌++◌, Option, Some, None, length, option_map}
use Rattle.std.specs.List.{list_all, AllZip}
use Rattle.cs_args.specs.Asked.{Text}
use Rattle.cs_table.specs.declared.fault.TableFault.{TableFault}
use Rattle.cs_table.specs.declared.fault.TableFault.TheVariants.{At, OutOfMemory}
use Rattle.cs_table.specs.Text.{lines_of, is_blank, StopsAt}
use Rattle.cs_crontab.specs.declared.fault.LineFault.{LineFault}
use Rattle.cs_crontab.specs.declared.fault.LineFault.TheVariants.{TooLong, TooManyJobs}
use Rattle.cs_crontab.specs.declared.limits.TheConstants.{MAX_COMMANDS}
use Rattle.cs_crontab.specs.Crontab.{CommandLine, Table as Crontab}
use Rattle.cs_crontab.specs.Faults as users
use Rattle.cs_crontab.specs.Faults.{IsCrontab}
use Rattle.cs_system.specs.declared.fault.SystemFault.{SystemFault}
use Rattle.cs_system.specs.declared.fault.SystemFault.TheVariants.{Line}
use Rattle.cs_system.specs.Faults.{IsSystemCrontab, IsFaultOf}
use Rattle.cs_place.specs.Mark.{mark}
use Rattle.cs_place.specs.Places.{place_of, places_of}
use Rattle.cs_place.specs.declared.places.Place.{Place}
use Rattle.cs_decl.specs.When.{same_when}
use Rattle.cs_gather.specs.declared.line.Gathered.{Gathered}
use Rattle.cs_gather.specs.declared.table.Table.{Table}
use Rattle.cs_gather.specs.declared.table.Table.TheVariants.{System, User}

-- ---- what the text says

-- `NAME:LINE` and the user in the comment of a place
abbrev pub told_by : Place → List ℕ × List ℕ
told_by place = (place.origin, place.user)

-- a line has the same times and command, and its comment names the table, the line and the user
-- that the command comes from
pub record IsGathered (places : List Place) (line : CommandLine) (gathered : Gathered)
    : Type 0 where
  pub when : same_when line.when gathered.when ≡ true
  pub command : line.command ≡ gathered.command
  pub place : option_map told_by (place_of places line.number)
      ≡ Some (gathered.origin, gathered.user)

-- The text is a crontab with the mark as its only setting; its commands are these, in this order.
pub record Gathers (text : List ℕ) (commands : List Gathered) : Type 0 where
  pub table : Crontab
  pub written : IsCrontab text table
  pub marked : table.settings ≡ mark ∷ []
  pub same : AllZip (IsGathered (places_of text table)) table.lines commands

-- ---- what a table says

-- the text is a user's table, or without a user a table whose lines name users
abbrev pub Denotes : Option Text → List ℕ → Table → Type 0
Denotes None text (System table) = IsSystemCrontab text table
Denotes (Some user) text (User table) = IsCrontab text table
Denotes user text other = ⊥

abbrev pub as_system : TableFault LineFault → TableFault SystemFault
as_system OutOfMemory = OutOfMemory
as_system (At line column size fault) = At line column size (Line fault)

-- the first fault of such a text
abbrev pub HasFault : Option Text → List ℕ → TableFault SystemFault → Type 0
HasFault None text fault = IsFaultOf text fault
HasFault (Some user) text fault =
    (inner : TableFault LineFault) × users.IsFaultOf text inner × (fault ≡ as_system inner)

-- ---- what is too much

-- the place is all of a line, without its leading blanks
pub record IsLineAt (text : List ℕ) (line column size : ℕ) : Type 0 where
  pub before : List (List ℕ)
  pub found : List ℕ
  pub later : List (List ℕ)
  pub parts : lines_of text ≡ before ++ (found ∷ later)
  pub number : line ≡ length before + 1
  pub indent : List ℕ
  pub content : List ℕ
  pub line_parts : found ≡ indent ++ content
  pub blank : list_all is_blank indent ≡ true
  pub stops : StopsAt is_blank content
  pub column_is : column ≡ length indent + 1
  pub size_is : size ≡ length content

-- the first command for which there is no room is on that line
abbrev pub IsOneTooMany : ℕ → List Gathered → ℕ → Type 0
IsOneTooMany room commands line =
    (before : List Gathered) × (command : Gathered) × (later : List Gathered)
    × (commands ≡ before ++ (command ∷ later)) × (length before ≡ room) × (line ≡ command.number)

-- At a line of the table there are too many commands, or the text or a comment grows too long.
abbrev pub IsOverflow : List ℕ → ℕ → List Gathered → TableFault SystemFault → Type 0
IsOverflow text room commands OutOfMemory = Unit {0}
IsOverflow text room commands (At line column size fault) = IsLineAt text line column size
    × ((fault ≡ Line TooLong) ⊎ ((fault ≡ Line TooManyJobs) × IsOneTooMany room commands line))

abbrev pub room_behind : List Gathered → ℕ
room_behind old = MAX_COMMANDS - length old
