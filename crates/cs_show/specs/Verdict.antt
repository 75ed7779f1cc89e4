-- What `replay --judge` takes and says: a script as `judge` prints it, and what it breaks.
use Rattle.std.specs.Prelude.{◌≡◌, ◌⊎◌, ◌-◌, ℕ, Bool, true, false, ◌&&◌, if◌then◌else◌, nat_eq}
use Rattle.std.specs.Prelude.{List, [], ◌∷◌, ◌++◌, get_or, map, set, take, codes, decimal, Result}
use Rattle.std.specs.List.{starts_with}
use Rattle.cs_history.specs.declared.event.Event.{Event}
use Rattle.cs_history.specs.declared.refusal.Refusal.{Refusal}
use Rattle.cs_history.specs.declared.script.Script.{Script}
use Rattle.cs_plan.specs.Plan.{Declared, as_plan}
use Rattle.cs_counterexample.specs.Shown.{IsHarmless, IsIllegalAt, IsLateAt, IsShown}
use Rattle.cs_counterexample.specs.Shown.{IsUnsafe}
use Rattle.cs_counterexample.specs.ShownText.{shown_text}
use Rattle.cs_counterexample.specs.declared.shown.Shown.{Shown}
use Rattle.cs_report.specs.Faults.{Means as MeansScript}
use Rattle.cs_report.specs.Grammar.{Numbered, plain}
use Rattle.cs_report.specs.Script.{Fault as ScriptFault}

-- with `--judge` a first line that begins with `unsafe: ` is a comment: its first byte counts as
-- `#`
unfoldable pub as_script : Bool → List ℕ → List ℕ
as_script judge text =
    if judge && starts_with nat_eq text (codes "unsafe: ") then set text 0 35 else text

-- the script that a text so means, or its fault
abbrev pub MeansPart : Declared → Bool → List ℕ → Result Numbered ScriptFault → Type 0
MeansPart plan judge text = MeansScript plan (as_script judge text)

-- the line of the script with the event of this number, counted from 1
abbrev pub line_of : List (ℕ × Event) → ℕ → ℕ
line_of events number = get_or (map (λ e. e.0) events) (number - 1) 0

-- `unsafe: line 1 due 2024-01-01 23:30 and line 2 due 2024-01-02 00:00 run together`
abbrev pub broken_line : Declared → Shown → List ℕ
broken_line plan shown = shown_text plan shown ++ 10 ∷ []

-- `late: script line 7 comes when a run has passed its declared time`
unfoldable pub late_line : ℕ → List ℕ
late_line number = codes "late: script line "
    ++ (decimal number ++ codes " comes when a run has passed its declared time\n")

-- no event is refused and each run ends within its declared time, and this is broken first
abbrev pub TellsBreak : Declared → Script → List ℕ → Type 0
TellsBreak plan script line =
    (shown : Shown) × IsShown (as_plan plan) script shown × (line ≡ broken_line plan shown)

-- the first events of a script, this many
abbrev pub beginning : Numbered → ℕ → Script
beginning script count =
    record { start = script.start; events = map (λ e. e.1) (take count script.events) }

-- the line of the event of this number, before which nothing is broken
abbrev pub TellsLine : Declared → Numbered → ℕ → List ℕ → Type 0
TellsLine plan script n line = (¬ (IsUnsafe (as_plan plan) (beginning script (n - 1))))
    × (line ≡ late_line (line_of script.events n))

-- the event of this number is the first to find a run over its declared time: what was broken
-- before it is reported, or else its line
abbrev pub TellsLate : Declared → Numbered → List ℕ → Type 0
TellsLate plan script line =
    (n : ℕ) × IsLateAt (as_plan plan) (plain script) n
    × (TellsBreak plan (beginning script (n - 1)) line ⊎ TellsLine plan script n line)

-- an event is refused before a run is late: its own line has said so
abbrev pub TellsNothing : Declared → Numbered → List ℕ → Type 0
TellsNothing plan script line =
    (n : ℕ) × (f : Refusal) × IsIllegalAt (as_plan plan) (plain script) n f × (line ≡ [])

-- no event is refused, each run ends within its declared time, and nothing is broken
abbrev pub TellsSafe : Declared → Numbered → List ℕ → Type 0
TellsSafe plan script line =
    IsHarmless (as_plan plan) (plain script) × (line ≡ codes "safe so far\n")

-- what is said of a script after its state, and whether something goes wrong in it
abbrev pub IsVerdict : Declared → Numbered → List ℕ → Bool → Type 0
IsVerdict plan script line true =
    TellsBreak plan (plain script) line
    ⊎ (TellsLate plan script line ⊎ TellsNothing plan script line)
IsVerdict plan script line false = TellsSafe plan script line
