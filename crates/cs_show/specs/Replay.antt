-- What `replay` says of the events of a script.
use Rattle.std.specs.Prelude.{ℕ, Bool, true, false, ◌||◌, List, [], ◌∷◌, ◌++◌, length, codes, decimal, is_err, Option, Some, None, Result, Ok, Err}
use Rattle.cs_civil.specs.Text.{minute_text}
use Rattle.cs_history.specs.Plan.{Plan}
use Rattle.cs_history.specs.History.{From}
use Rattle.cs_history.specs.Step.{State, after, refusal, reply, state_of}
use Rattle.cs_history.specs.declared.event.Event.{Event}
use Rattle.cs_history.specs.declared.reply.Reply.{Reply}
use Rattle.cs_history.specs.declared.refusal.Refusal.{Refusal}
use Rattle.cs_plan.specs.Plan.{Declared, as_plan}
use Rattle.cs_report.specs.Reply.{reply_text}
use Rattle.cs_report.specs.Grammar.{Numbered}

-- the answer to an event that the plan takes or refuses
abbrev pub answered : Option Refusal → Reply → Result Reply Refusal
answered None reply = Ok reply
answered (Some refusal) reply = Err refusal

abbrev pub tried : Plan → State → Event → Result Reply Refusal
tried p s e = answered (refusal p s e) (reply p s e)

-- a refused event changes nothing
abbrev pub state_behind : Option Refusal → State → State → State
state_behind None old new = new
state_behind (Some refusal) old new = old

abbrev pub next : Plan → State → Event → State
next p s e = state_behind (refusal p s e) s (after p s e)

-- `3: refused 4 NotSettled`, by the number of the event's line
unfoldable pub event_line : ℕ → Result Reply Refusal → List ℕ
event_line number answer = decimal number ++ (codes ": " ++ (reply_text answer ++ 10 ∷ []))

-- such a line for each event, each tried in the state that those before it left
unfoldable pub event_lines : Plan → State → List (ℕ × Event) → List ℕ
event_lines p s [] = []
event_lines p s (e ∷ es) = event_line e.0 (tried p s e.1) ++ event_lines p (next p s e.1) es

-- whether one of them was refused
unfoldable pub is_any_refused : Plan → State → List (ℕ × Event) → Bool
is_any_refused p s [] = false
is_any_refused p s (e ∷ es) = is_err (tried p s e.1) || is_any_refused p (next p s e.1) es

-- the state that they all left
unfoldable pub last_state : Plan → State → List (ℕ × Event) → State
last_state p s [] = s
last_state p s (e ∷ es) = last_state p (next p s e.1) es

abbrev pub side : Bool → List ℕ
side true = codes "up "
side false = codes "down "

-- `up 2024-01-01 01:01, pending 0, waiting 0, running 1`
unfoldable pub state_line : State → List ℕ
state_line s =
    (side s.up ++ minute_text s.now)
    ++ ((codes ", pending " ++ decimal (length s.pending))
    ++ ((codes ", waiting " ++ decimal (length s.waiting))
    ++ ((codes ", running " ++ decimal (length s.running)) ++ 10 ∷ [])))

-- the lines of the events, and the state at the end
unfoldable pub replay_text : Declared → Numbered → List ℕ
replay_text d script =
    let start = state_of (as_plan d) (From script.start) in
    event_lines (as_plan d) start script.events
    ++ state_line (last_state (as_plan d) start script.events)

-- whether an event of the script was refused
unfoldable pub has_refusal : Declared → Numbered → Bool
has_refusal d script =
    is_any_refused (as_plan d) (state_of (as_plan d) (From script.start)) script.events
