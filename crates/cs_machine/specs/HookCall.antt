-- For which lines of a daemon's log a command of the operator's is started.
use Rattle.std.specs.Prelude.{◌≡◌, ◌≢◌, ◌⊎◌, ℕ, ◌==◌, nat_lt, if◌then◌else◌, false, List, [], ◌∷◌, ◌++◌, length, codes, Option}
use Rattle.std.specs.List.{list_any}
use Rattle.cs_machine.specs.Limit.{limit_line}
use Rattle.cs_machine.specs.Setup.{peers_of}
use Rattle.cs_machine.specs.declared.hook_call.HookCall.{HookCall as TheCall}
use Rattle.cs_machine.specs.declared.hook_call.HookEvent.{HookEvent}
use Rattle.cs_machine.specs.declared.hook_call.HookEvent.TheVariants.{Failure, Limit, Overrun, Success}
use Rattle.cs_machine.specs.declared.setup.JobNote.{JobNote}

-- `ended RUN WHAT WORD`, with one word at the end
abbrev pub EndsBy : List ℕ → List ℕ → List ℕ → List ℕ → Type 0
EndsBy words run what word =
    (words ≡ codes "ended " ++ run ++ what ++ codes " " ++ word)
    × (list_any (λ b. b == 32) word ≡ false)

-- `ended RUN signal NUMBER`
abbrev pub TellsSignal : List ℕ → List ℕ → List ℕ → Type 0
TellsSignal words run status =
    (number : List ℕ) × EndsBy words run (codes " signal") number
    × (status ≡ codes "signal " ++ number)

abbrev pub TellsEnd : List ℕ → List ℕ → List ℕ → Type 0
TellsEnd words run status =
    EndsBy words run (codes " status") status ⊎ TellsSignal words run status

-- it couldn't be started, or ended with another status than 0, or by a signal
abbrev pub TellsFailure : List ℕ → List ℕ → List ℕ → Type 0
TellsFailure words run status =
    ((words ≡ codes "not started " ++ run) × (status ≡ codes "not started"))
    ⊎ (TellsEnd words run status × (status ≢ codes "0"))

abbrev pub TellsSuccess : List ℕ → List ℕ → Type 0
TellsSuccess words run = words ≡ codes "ended " ++ run ++ codes " status 0"

-- what the line says has happened to the run; `span` is how many seconds it took
abbrev pub TellsEvent : List ℕ → List JobNote → Option ℕ → List ℕ → HookEvent → Type 0
TellsEvent words jobs span run (Overrun peers) =
    (words ≡ codes "overrun " ++ run) × (peers ≡ peers_of run jobs)
TellsEvent words jobs span run (Failure status seconds) =
    TellsFailure words run status × (seconds ≡ span)
TellsEvent words jobs span run (Limit peers) =
    (words ≡ limit_line run) × (peers ≡ peers_of run jobs)
TellsEvent words jobs span run (Success seconds) = TellsSuccess words run × (seconds ≡ span)

-- hooks are called for a run that is late, that failed, that was ended at its limit, or that ended
-- with status 0
abbrev pub Tells : List ℕ → List JobNote → Option ℕ → TheCall → Type 0
Tells words jobs span call = TellsEvent words jobs span call.run call.event

-- the calls that are kept after a line: its own comes last, unless there are 256 before
abbrev pub Keeps : List ℕ → List JobNote → Option ℕ → List TheCall → List TheCall → Type 0
Keeps words jobs span before after =
    ((call : TheCall) × Tells words jobs span call
    × (after ≡ (if nat_lt (length before) 256 then before ++ call ∷ [] else before)))
    ⊎ (((call : TheCall) → ¬ (Tells words jobs span call)) × (after ≡ before))
