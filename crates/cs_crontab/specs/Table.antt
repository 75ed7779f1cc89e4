-- What a line adds to a crontab, or its fault, as the code reads it.
use Rattle.std.specs.Prelude.{ℕ, nat_lt, if◌then◌else◌, List, length, Result, Ok, Err}
use Rattle.cs_crontab.specs.declared.fault.LineFault.{LineFault}
use Rattle.cs_crontab.specs.declared.fault.LineFault.TheVariants.{TooManyJobs}
use Rattle.cs_crontab.specs.declared.limits.TheConstants.{MAX_COMMANDS}
use Rattle.cs_crontab.specs.Crontab.{Entry, Nothing, Setting, Command, Table, with_entry}
use Rattle.cs_crontab.specs.Reading.{line_of}
use Rattle.cs_table.specs.declared.fault.Wrong.{Wrong}
use Rattle.cs_table.specs.Text.{after, is_blank}
use Rattle.cs_table.specs.Wrong.{◌>>=◌, whole}

-- a line comes to the end of the table, unless its command is above the limit
abbrev pub put : ℕ → List ℕ → Table → Entry → Result Table (Wrong LineFault)
put number line table Nothing = Ok table
put number line table (Setting name value) = Ok (with_entry number (Setting name value) table)
put number line table (Command when command) =
    if nat_lt (length table.lines) MAX_COMMANDS
    then Ok (with_entry number (Command when command) table)
    else Err (whole TooManyJobs (after is_blank line))

abbrev pub added : ℕ → Table → List ℕ → Result Table (Wrong LineFault)
added number table line = line_of line >>= put number line table
