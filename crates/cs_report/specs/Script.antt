-- What a script's text denotes, or its fault with its line, read line by line.
use Rattle.std.specs.Prelude.{◌≡◌, ℕ, ◌+◌, ◌||◌, ◌&&◌, Bool, true, false, not, ◌==◌, nat_lt}
use Rattle.std.specs.Prelude.{if◌then◌else◌, List, [], ◌∷◌, ◌++◌, length, replicate, set, get_or}
use Rattle.std.specs.Prelude.{is_some, Option, Some, None, Result, Ok, Err}
use Rattle.cs_table.specs.Text.{lines_of}
use Rattle.cs_history.specs.declared.event.Event.{Event}
use Rattle.cs_history.specs.declared.script.Script.{Script}
use Rattle.cs_plan.specs.Plan.{Declared}
use Rattle.cs_report.specs.Names.{place_of}
use Rattle.cs_report.specs.Grammar.{Form, Start, Stamp, Minute, Up, Down, Begin, Got, Catch}
use Rattle.cs_report.specs.Grammar.{EndLine, EndJob, Entry, Starts, Stamps, Happens, plain}
pub use Rattle.cs_report.specs.Grammar.{Numbered}
use Rattle.cs_report.specs.Reading.{form_of}
use Rattle.cs_report.specs.Entries.{◌>>=◌, or_fault, entry_of}
use Rattle.cs_report.specs.declared.script_fault.ScriptFault.{ScriptFault}
use Rattle.cs_report.specs.declared.script_fault.ScriptFault.TheVariants.{TooLong, BadLine, NoStart}
use Rattle.cs_report.specs.declared.script_fault.ScriptError.{ScriptError}
use Rattle.cs_report.specs.declared.script_fault.ScriptError.TheVariants.{At, OutOfMemory}
use Rattle.cs_report.specs.declared.script.TheConstants.{MAX_SCRIPT}

abbrev pub Fault : Type 0
Fault = ℕ × ScriptFault

-- What a call answered is what the text denotes, unless memory ran out.
abbrev pub Fails : {Y : Type 0} → ScriptError → Result Y Fault → Type 0
Fails OutOfMemory read = Unit {0}
Fails (At number fault) read = read ≡ Err (number, fault)

abbrev pub Denotes : {X Y : Type 0} → (X → Y) → Result Y Fault → Result X ScriptError → Type 0
Denotes view read (Ok x) = read ≡ Ok (view x)
Denotes view read (Err e) = Fails e read

-- the lines so far: the start's minute and up or down, the stamps, and the events with line numbers
pub record PartialScript : Type 0 where
  pub opening : Option (ℕ × Bool)
  pub stamps : List (Option ℕ)
  pub events : List (ℕ × Event)

abbrev pub nothing : Declared → PartialScript
nothing d = record {
  opening = None;
  stamps = replicate (length d.anacrontab.lines) None;
  events = [];
}

-- an empty line or one that begins with `#`
abbrev pub is_ignored : List ℕ → Bool
is_ignored [] = true
is_ignored (b ∷ bs) = b == 35

abbrev pub has_stamp : List (Option ℕ) → Option ℕ → Bool
has_stamp stamps None = false
has_stamp stamps (Some place) = is_some (get_or stamps place None)

-- an event came before, or a stamp of that identifier
unfoldable pub is_too_late : Declared → PartialScript → List ℕ → Bool
is_too_late d draft identifier =
    not (length draft.events == 0) || has_stamp draft.stamps (place_of d identifier)

-- the form is out of place after those before it
abbrev pub is_misplaced : Declared → PartialScript → Form → Bool
is_misplaced d draft (Start moment up) = is_some draft.opening
is_misplaced d draft (Stamp identifier date) = is_too_late d draft identifier
is_misplaced d draft (Minute moment) = false
is_misplaced d draft (Up moment) = false
is_misplaced d draft Down = false
is_misplaced d draft (Begin number) = false
is_misplaced d draft (Got number moment) = false
is_misplaced d draft (Catch identifier) = false
is_misplaced d draft (EndLine number moment) = false
is_misplaced d draft (EndJob identifier moment) = false

abbrev pub is_start : Entry → Bool
is_start (Starts t up) = true
is_start (Stamps place day) = false
is_start (Happens event) = false

-- the first line that counts has to be the start
abbrev pub behind_start : Bool → Entry → Result Entry ScriptFault
behind_start started x = if not started && not (is_start x) then Err NoStart else Ok x

abbrev pub fitted : Declared → PartialScript → Form → Result Entry ScriptFault
fitted d draft form =
    if is_misplaced d draft form then Err BadLine
    else entry_of d form >>= behind_start (is_some draft.opening)

-- the content of a line after those before it
unfoldable pub said_behind : Declared → PartialScript → List ℕ → Result Entry ScriptFault
said_behind d draft line = or_fault BadLine (form_of line) >>= fitted d draft

abbrev pub with_entry : ℕ → Entry → PartialScript → PartialScript
with_entry number (Starts t up) draft = record draft { opening = Some (t, up) }
with_entry number (Stamps place day) draft =
    record draft { stamps = set draft.stamps place (Some day) }
with_entry number (Happens event) draft =
    record draft { events = draft.events ++ (number, event) ∷ [] }

unfoldable pub taken : Declared → ℕ → PartialScript → List ℕ → Result PartialScript ScriptFault
taken d number draft line =
    if is_ignored line then Ok draft
    else said_behind d draft line >>= (λ x. Ok (with_entry number x draft))

-- with the number of its line
abbrev pub numbered : {A : Type 0} → ℕ → Result A ScriptFault → Result A Fault
numbered number (Ok x) = Ok x
numbered number (Err fault) = Err (number, fault)

-- the lines after the draft, of which the first has this number
unfoldable pub lines_from : Declared → ℕ → PartialScript → List (List ℕ) → Result PartialScript Fault
lines_from d number draft [] = Ok draft
lines_from d number draft (text ∷ texts) = do
  more ← numbered number (taken d number draft text)
  lines_from d (number + 1) more texts

-- the script of all lines: one without a start has a fault in no line
abbrev pub whole : PartialScript → Option (ℕ × Bool) → Result Numbered Fault
whole draft None = Err (0, NoStart)
whole draft (Some opening) = Ok (record {
  start = record { now = opening.0; up = opening.1; stamps = draft.stamps };
  events = draft.events;
})

abbrev pub finished : PartialScript → Result Numbered Fault
finished draft = whole draft draft.opening

unfoldable pub numbered_script_of : Declared → List ℕ → Result Numbered Fault
numbered_script_of d text =
    if nat_lt MAX_SCRIPT (length text) then Err (0, TooLong) else do
      draft ← lines_from d 1 (nothing d) (lines_of text)
      finished draft

unfoldable pub script_of : Declared → List ℕ → Result Script Fault
script_of d text = do
  script ← numbered_script_of d text
  Ok (plain script)
