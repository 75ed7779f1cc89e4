-- What comes of asking the daemon of a folder of stamps to read its files again.
use Rattle.std.specs.Prelude.{◌≡◌, ◌≢◌, ◌⊎◌, ◌+◌, ◌++◌, ◌∷◌, ℕ, List, [], codes}
use Rattle.cs_files.specs.Response.{Ending, status_of}
use Rattle.cs_files.specs.declared.response.Status.{Status}
use Rattle.cs_ask.specs.Asking.{MayTell, refused}
use Rattle.cs_files.specs.Ending.{Ends, RunsOut, Sink}
use Rattle.cs_ask.specs.declared.asking.Refusal.{Refusal}
use Rattle.cs_ask.specs.declared.asking.Refusal.TheVariants.{Unanswered}

-- a daemon's answer: the digit of a status, a newline, and what is said
abbrev pub reply_text : Status → List ℕ → List ℕ → List ℕ
reply_text status first second = (48 + status_of status) ∷ 10 ∷ (first ++ second)

abbrev pub answer_awaited : List ℕ
answer_awaited = codes "cronsafe: waiting for the daemon's answer\n"

-- the answer to the text of a daemon's answer: what that says, with its status; or that it can't be
-- read, where it isn't one
abbrev pub IsToldOf : List ℕ → List ℕ → Ending → Type 0
IsToldOf folder answer ending =
    ((status : Status) × (text : List ℕ) × (answer ≡ reply_text status text [])
    × (ending ≡ record { status = status_of status; out = []; err = text }))
    ⊎ (((status : Status) (text : List ℕ) → answer ≢ reply_text status text [])
    × (ending ≡ refused Unanswered folder))

-- the daemon has answered, or it doesn't do what it is asked
abbrev pub IsOutcome : List ℕ → Ending → Type 0
IsOutcome folder ending = ((refusal : Refusal) × (ending ≡ refused refusal folder))
    ⊎ ((answer : List ℕ) × IsToldOf folder answer ending)

-- It may be reported that an answer is waited for. Then the outcome is reported, or memory ran out.
abbrev pub Reloads : List ℕ → Sink → Sink → Sink → Sink → ℕ → Type 0
Reloads folder out-old out-new err-old err-new status = (waited : Sink)
    × MayTell answer_awaited err-old waited
    × (((ending : Ending) × IsOutcome folder ending
    × Ends ending out-old out-new waited err-new status)
    ⊎ RunsOut out-old out-new waited err-new status)
