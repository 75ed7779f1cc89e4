-- The content of a form under a plan, or its first fault.
use Rattle.std.specs.Prelude.{◌≡◌, ℕ, ◌≤◌, Option, Some, None, Result, Ok, Err}
use Rattle.cs_table.specs.Text.{decimal}
use Rattle.cs_history.specs.Plan.{first_start}
use Rattle.cs_plan.specs.Plan.{Declared}
use Rattle.cs_report.specs.Dates.{minute_of, day_of, from_on}
use Rattle.cs_report.specs.Names.{job_on, job_named, place_of}
use Rattle.cs_report.specs.Grammar.{Form, Start, Stamp, Minute, Up, Down, Begin, Got, Catch}
use Rattle.cs_report.specs.Grammar.{EndLine, EndJob, Entry, Starts, Stamps, Happens, entry}
use Rattle.cs_report.specs.declared.script_fault.ScriptFault.{ScriptFault}
use Rattle.cs_report.specs.declared.script_fault.ScriptFault.TheVariants.{BadDate, UnknownName}

infixl 10 ◌>>=◌
abbrev pub ◌>>=◌ : {A B F : Type 0} → Result A F → (A → Result B F) → Result B F
(Ok x) >>= f = f x
(Err e) >>= f = Err e

-- What a function answered, seen by view, is what reading gives.
abbrev pub Gives : {X Y : Type 0} → (X → Y) → Result X ScriptFault → Result Y ScriptFault → Type 0
Gives view (Ok x) read = read ≡ Ok (view x)
Gives view (Err e) read = read ≡ Err e

abbrev pub or_fault : {A : Type 0} → ScriptFault → Option A → Result A ScriptFault
or_fault fault None = Err fault
or_fault fault (Some x) = Ok x

-- the minute or the day of the form's date, 0 where it has none
abbrev pub date_of : Form → Option ℕ
date_of (Start moment up) = from_on first_start (minute_of moment)
date_of (Stamp identifier date) = day_of date
date_of (Minute moment) = minute_of moment
date_of (Up moment) = minute_of moment
date_of Down = Some 0
date_of (Begin number) = Some 0
date_of (Got number moment) = minute_of moment
date_of (Catch identifier) = Some 0
date_of (EndLine number moment) = minute_of moment
date_of (EndJob identifier moment) = minute_of moment

-- the job that the form names, of a stamp its place in the anacrontab, 0 where it names none
abbrev pub name_of : Declared → Form → Option ℕ
name_of d (Start moment up) = Some 0
name_of d (Stamp identifier date) = place_of d identifier
name_of d (Minute moment) = Some 0
name_of d (Up moment) = Some 0
name_of d Down = Some 0
name_of d (Begin number) = job_on d (decimal number)
name_of d (Got number moment) = job_on d (decimal number)
name_of d (Catch identifier) = job_named d identifier
name_of d (EndLine number moment) = job_on d (decimal number)
name_of d (EndJob identifier moment) = job_named d identifier

abbrev pub entry_of : Declared → Form → Result Entry ScriptFault
entry_of d form = do
  t ← or_fault BadDate (date_of form)
  j ← or_fault UnknownName (name_of d form)
  Ok (entry form t j)

-- a start is from 1970-01-04 on
abbrev pub IsLateEnough : Entry → Type 0
IsLateEnough (Starts t up) = first_start ≤ t
IsLateEnough (Stamps place day) = Unit {0}
IsLateEnough (Happens event) = Unit {0}
