-- What a line adds to an anacrontab, or its fault, as the code reads it.
use Rattle.std.specs.Prelude.{ℕ, Bool, nat_lt, if◌then◌else◌, List, length, Result, Ok, Err}
use Rattle.std.specs.List.{list_any}
use Rattle.std.specs.Str.{bytes_eq}
use Rattle.cs_anacrontab.specs.declared.fault.JobFault.{JobFault}
use Rattle.cs_anacrontab.specs.declared.fault.JobFault.TheVariants.{TwiceNamed, TooManyJobs}
use Rattle.cs_anacrontab.specs.declared.limits.TheConstants.{MAX_JOBS}
use Rattle.cs_anacrontab.specs.Anacrontab.{Entry, Nothing, Setting, Job, JobLine, Table, with_entry}
use Rattle.cs_anacrontab.specs.Reading.{behind_word, line_of}
use Rattle.cs_table.specs.declared.fault.Wrong.{Wrong}
use Rattle.cs_table.specs.Text.{after, is_blank}
use Rattle.cs_table.specs.Wrong.{◌>>=◌, at_front, whole}

abbrev pub is_named : List ℕ → List JobLine → Bool
is_named identifier lines = list_any (λ job. bytes_eq job.identifier identifier) lines

-- the text of a line from its third word on
abbrev pub from_identifier : List ℕ → List ℕ
from_identifier line = behind_word (behind_word (after is_blank line))

-- a line comes to the end of the table, unless its identifier is repeated, or else its job is above
-- the limit
abbrev pub put : ℕ → List ℕ → Table → Entry → Result Table (Wrong JobFault)
put number line table Nothing = Ok table
put number line table (Setting name value) = Ok (with_entry number (Setting name value) table)
put number line table (Job period delay identifier command) =
    if is_named identifier table.lines
    then Err (at_front TwiceNamed (from_identifier line) identifier)
    else if nat_lt (length table.lines) MAX_JOBS
    then Ok (with_entry number (Job period delay identifier command) table)
    else Err (whole TooManyJobs (after is_blank line))

abbrev pub added : ℕ → Table → List ℕ → Result Table (Wrong JobFault)
added number table line = line_of line >>= put number line table
