-- Which fault of a system table is the first: by line, and in a line from left to right.
use Rattle.std.specs.Prelude.{◌≡◌, ℕ, ◌≤◌, ◌⊎◌, true, List, ◌++◌, length}
use Rattle.std.specs.List.{list_all, list_any}
use Rattle.cs_table.specs.declared.fault.Wrong.{Wrong}
use Rattle.cs_table.specs.declared.fault.TableFault.{TableFault}
use Rattle.cs_table.specs.Text.{is_blank, is_solid, Are, StopsAt}
use Rattle.cs_table.specs.Wrong.{at_end, before, IsWhole}
use Rattle.cs_table.specs.Table as tables
use Rattle.cs_table.specs.Table.{Kind, IsTable}
use Rattle.cs_crontab.specs.declared.fault.LineFault.{LineFault}
use Rattle.cs_crontab.specs.declared.fault.LineFault.TheVariants as faults
use Rattle.cs_crontab.specs.declared.limits.TheConstants.{MAX_COMMANDS}
use Rattle.cs_crontab.specs.declared.table.When.{When}
use Rattle.cs_crontab.specs.Crontab as users
use Rattle.cs_crontab.specs.Grammar.{Says as UserSays}
use Rattle.cs_crontab.specs.Faults.{LineFails as UserLineFails}
use Rattle.cs_system.specs.declared.fault.SystemFault.{SystemFault}
use Rattle.cs_system.specs.declared.fault.SystemFault.TheVariants.{Line, BadUser}
use Rattle.cs_system.specs.System.{Command, Table, no_lines}
use Rattle.cs_system.specs.Grammar.{is_foreign, IsUser, Says, Adds}

abbrev pub too_long : SystemFault
too_long = Line faults.TooLong

-- a fault of a user's table at the same place
abbrev pub as_system : Wrong LineFault → Wrong SystemFault
as_system wrong = record { fault = Line wrong.fault; left = wrong.left; length = wrong.length }

-- The word has a byte that no user's name has, or it is a user and only blanks follow.
abbrev pub UserFails : List ℕ → List ℕ → Wrong SystemFault → Type 0
UserFails word behind wrong =
    ((list_any is_foreign word ≡ true) × (wrong ≡ before behind BadUser word))
    ⊎ (IsUser word × (list_all is_blank behind ≡ true)
    × (wrong ≡ at_end (Line faults.NoCommand)))

-- The line has the fault in a user's table. Or it is a command there, and the fault is in the
-- command's first word or after it.
abbrev pub LineFails : List ℕ → Wrong SystemFault → Type 0
LineFails line wrong =
    ((inner : Wrong LineFault) × UserLineFails line inner × (wrong ≡ as_system inner))
    ⊎ ((when : When) × (word behind : List ℕ) × UserSays line (users.Command when (word ++ behind))
    × Are is_solid word × StopsAt is_solid behind × UserFails word behind wrong)

-- A line has a fault of its own, or its command is one too many for the table.
abbrev pub Fails : Table → List ℕ → Wrong SystemFault → Type 0
Fails table line wrong =
    LineFails line wrong
    ⊎ ((MAX_COMMANDS ≤ length table.lines)
    × ((when : When) × (user command : List ℕ) × Says line (Command when user command))
    × IsWhole (Line faults.TooManyJobs) line wrong)

abbrev pub system : Kind Table SystemFault
system = record { empty = no_lines; too_long = too_long; Adds = Adds; Fails = Fails }

-- The text is written as this table.
abbrev pub IsSystemCrontab : List ℕ → Table → Type 0
IsSystemCrontab text table = IsTable system text table

-- A text is written as a table, or it has a fault.
abbrev pub Meaning : Type 0
Meaning = tables.Meaning Table SystemFault

abbrev pub Means : List ℕ → Meaning → Type 0
Means text meaning = tables.Means system text meaning

-- The fault is that of the text, unless memory ran out.
abbrev pub IsFaultOf : List ℕ → TableFault SystemFault → Type 0
IsFaultOf text fault = tables.IsFaultOf system text fault
