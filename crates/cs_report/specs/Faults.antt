-- Which fault of a script is the first: of its lines, and in a line that of the smallest number.
use Rattle.std.specs.Prelude.{◌≡◌, ◌≢◌, ℕ, ◌+◌, ◌<◌, ◌≤◌, ◌⊎◌, Bool, List, [], ◌∷◌, ◌++◌, length}
use Rattle.std.specs.Prelude.{get_or, Some, None, Result, Ok, Err}
use Rattle.cs_table.specs.Text.{lines_of}
use Rattle.cs_plan.specs.Plan.{Declared}
use Rattle.cs_history.specs.declared.script.Script.{Script}
use Rattle.cs_report.specs.Names.{place_of}
use Rattle.cs_report.specs.Grammar.{Form, Start, Stamp, Minute, Up, Down, Begin, Got, Catch}
use Rattle.cs_report.specs.Grammar.{EndLine, EndJob, IsForm, HasDate, HasName, Entry, FormSays}
use Rattle.cs_report.specs.Grammar.{IsIgnored, AreLines, Numbered, AreEntriesOf, IsScript, plain}
use Rattle.cs_report.specs.declared.script_fault.ScriptFault.{ScriptFault}
use Rattle.cs_report.specs.declared.script_fault.ScriptFault.TheVariants.{TooLong, BadLine, BadDate}
use Rattle.cs_report.specs.declared.script_fault.ScriptFault.TheVariants.{UnknownName, NoStart}
use Rattle.cs_report.specs.declared.script_fault.ScriptError.{ScriptError}
use Rattle.cs_report.specs.declared.script_fault.ScriptError.TheVariants.{At, OutOfMemory}
use Rattle.cs_report.specs.declared.script.TheConstants.{MAX_SCRIPT}

-- There is no such date; or the date is good, and no job has the name.
abbrev pub FormFails : Declared → Form → ScriptFault → Type 0
FormFails d form fault =
    (((t : ℕ) → HasDate form t → ⊥) × (fault ≡ BadDate))
    ⊎ (((t : ℕ) × HasDate form t) × ((j : ℕ) → HasName d form j → ⊥) × (fault ≡ UnknownName))

-- a second start, and a stamp after an event or a stamp of the same job
abbrev pub IsMisplaced : Declared → Numbered → Form → Type 0
IsMisplaced d script (Start moment up) = Unit {0}
IsMisplaced d script (Stamp identifier date) =
    (script.events ≢ [])
    ⊎ ((place day : ℕ) × (place_of d identifier ≡ Some place)
    × (get_or script.start.stamps place None ≡ Some day))
IsMisplaced d script (Minute moment) = ⊥
IsMisplaced d script (Up moment) = ⊥
IsMisplaced d script Down = ⊥
IsMisplaced d script (Begin number) = ⊥
IsMisplaced d script (Got number moment) = ⊥
IsMisplaced d script (Catch identifier) = ⊥
IsMisplaced d script (EndLine number moment) = ⊥
IsMisplaced d script (EndJob identifier moment) = ⊥

abbrev pub IsStart : Form → Type 0
IsStart form = (moment : List ℕ) × (up : Bool) × (form ≡ Start moment up)

-- after nothing that counts: the form fails, or is a good one and no start
abbrev pub FailsFirst : Declared → Form → ScriptFault → Type 0
FailsFirst d form fault =
    FormFails d form fault
    ⊎ (¬ (IsStart form) × ((x : Entry) × FormSays d form x) × (fault ≡ NoStart))

-- after the lines of a script: the form is out of place, or else it fails
abbrev pub FailsBehind : Declared → Numbered → Form → ScriptFault → Type 0
FailsBehind d script form fault =
    (IsMisplaced d script form × (fault ≡ BadLine))
    ⊎ (¬ (IsMisplaced d script form) × FormFails d form fault)

-- a line that isn't ignored, and has no form
abbrev pub IsNoLine : List ℕ → Type 0
IsNoLine line = ¬ (IsIgnored line) × ((form : Form) → IsForm line form → ⊥)

-- The line is none of a script, or its form fails after what was said before it.
abbrev pub LineFails : Declared → List (ℕ × Entry) → List ℕ → ScriptFault → Type 0
LineFails d said line fault =
    (IsNoLine line × (fault ≡ BadLine))
    ⊎ ((form : Form) × IsForm line form
    × (((said ≡ []) × FailsFirst d form fault)
    ⊎ ((script : Numbered) × AreEntriesOf d said script × FailsBehind d script form fault)))

-- what was said is the beginning of a script
abbrev pub IsBeginning : Declared → List (ℕ × Entry) → Type 0
IsBeginning d said = (said ≡ []) ⊎ ((script : Numbered) × AreEntriesOf d said script)

-- The first line with a fault: the lines before it have none.
pub record IsFirstFault (d : Declared) (text : List ℕ) (number : ℕ) (fault : ScriptFault)
    : Type 0 where
  pub short : length text ≤ MAX_SCRIPT
  pub before : List (List ℕ)
  pub line : List ℕ
  pub later : List (List ℕ)
  pub parts : lines_of text ≡ before ++ (line ∷ later)
  pub place : number ≡ length before + 1
  pub said : List (ℕ × Entry)
  pub fine : AreLines d 1 before said
  pub beginning : IsBeginning d said
  pub stands : LineFails d said line fault

-- all lines are ignored
pub record IsEmpty (d : Declared) (text : List ℕ) : Type 0 where
  pub short : length text ≤ MAX_SCRIPT
  pub none : AreLines d 1 (lines_of text) []

-- the text's fault, with its line: too long a text and a missing start are in line 0
abbrev pub IsFault : Declared → List ℕ → ℕ → ScriptFault → Type 0
IsFault d text number fault =
    ((MAX_SCRIPT < length text) × (number ≡ 0) × (fault ≡ TooLong))
    ⊎ ((IsEmpty d text × (number ≡ 0) × (fault ≡ NoStart))
    ⊎ IsFirstFault d text number fault)

-- A text is written as a script, or it has a fault.
abbrev pub Meaning : Type 0
Meaning = Result Numbered (ℕ × ScriptFault)

abbrev pub Means : Declared → List ℕ → Meaning → Type 0
Means d text (Ok script) = IsScript d text script
Means d text (Err fault) = IsFault d text fault.0 fault.1

-- The fault that a call answered is the text's, unless memory ran out.
abbrev pub IsFaultOf : Declared → List ℕ → ScriptError → Type 0
IsFaultOf d text OutOfMemory = Unit {0}
IsFaultOf d text (At line fault) = IsFault d text line fault

-- the same without the line numbers of the events
abbrev pub PlainMeaning : Type 0
PlainMeaning = Result Script (ℕ × ScriptFault)

abbrev pub MeansPlain : Declared → List ℕ → PlainMeaning → Type 0
MeansPlain d text (Ok s) = (script : Numbered) × IsScript d text script × (s ≡ plain script)
MeansPlain d text (Err fault) = IsFault d text fault.0 fault.1
