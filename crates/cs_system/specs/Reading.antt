-- What a line is, or its first fault from left to right.
use Rattle.std.specs.Prelude.{ℕ, if◌then◌else◌, List, Result, Ok, Err}
use Rattle.std.specs.List.{list_any}
use Rattle.cs_table.specs.declared.fault.Wrong.{Wrong}
use Rattle.cs_table.specs.Text.{front, after, is_blank, is_solid, is_nothing}
use Rattle.cs_table.specs.Wrong.{at_end, at_front}
use Rattle.cs_crontab.specs.declared.fault.LineFault.{LineFault}
use Rattle.cs_crontab.specs.declared.fault.LineFault.TheVariants.{NoCommand}
use Rattle.cs_crontab.specs.declared.table.When.{When}
use Rattle.cs_crontab.specs.Crontab as users
use Rattle.cs_crontab.specs.Reading as user_lines
use Rattle.cs_system.specs.declared.fault.SystemFault.{SystemFault}
use Rattle.cs_system.specs.declared.fault.SystemFault.TheVariants.{Line, BadUser}
use Rattle.cs_system.specs.System.{Entry, Nothing, Setting, Command}
use Rattle.cs_system.specs.Grammar.{is_foreign}
use Rattle.cs_system.specs.Faults.{as_system}

-- the user and the command that follow the time
abbrev pub command_of : When → List ℕ → Result Entry (Wrong SystemFault)
command_of when text =
    if list_any is_foreign (front is_solid text)
    then Err (at_front BadUser text (front is_solid text))
    else if is_nothing (after is_blank (after is_solid text))
    then Err (at_end (Line NoCommand))
    else Ok (Command when (front is_solid text) (after is_blank (after is_solid text)))

abbrev pub system_line : Result users.Entry (Wrong LineFault) → Result Entry (Wrong SystemFault)
system_line (Ok users.Nothing) = Ok Nothing
system_line (Ok (users.Setting name value)) = Ok (Setting name value)
system_line (Ok (users.Command when text)) = command_of when text
system_line (Err wrong) = Err (as_system wrong)

unfoldable pub line_of : List ℕ → Result Entry (Wrong SystemFault)
line_of line = system_line (user_lines.line_of line)
