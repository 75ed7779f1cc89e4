-- Hooks: commands of the operator's that are started at what happens to a run.
use Rattle.std.specs.Prelude.{ℕ, Bool, if◌then◌else◌, List, [], ◌∷◌, ◌++◌, codes, decimal, flat_map, map, Option, None, Some, is_some, option_map, unwrap_or}
use Rattle.std.specs.Borrow.{Bor}
use Rattle.std.specs.List.{fold}
use Rattle.cs_args.specs.Asked.{AskedRun}
use Rattle.cs_machine.specs.Setup.{note_of}
use Rattle.cs_machine.specs.declared.hook_call.HookCall.{HookCall}
use Rattle.cs_machine.specs.declared.hook_call.HookEvent.{HookEvent}
use Rattle.cs_machine.specs.declared.hook_call.HookEvent.TheVariants.{Failure, Limit, Overrun, Success}
use Rattle.cs_machine.specs.declared.setup.JobNote.{JobNote}
use Rattle.cs_serve.specs.Failing.{Memory, called_at, is_quiet, remembered}
use Rattle.cs_serve.specs.declared.hooks.Job.{Job}

-- ---- the job of a run

-- its name, its command, and its user, empty if that is the daemon's own
abbrev pub JobWords : Type 0
JobWords = List ℕ × List ℕ × List ℕ

abbrev pub seen : Job → JobWords
seen job = (job.name.now, job.command.now, job.user.now)

abbrev pub words_of : Option JobNote → JobWords
words_of None = ([], [], [])
words_of (Some note) = (note.name, note.command, unwrap_or note.user [])

-- by which it is known from plan to plan
abbrev pub key_of : JobWords → List ℕ
key_of job = job.2 ++ codes "\n" ++ job.0 ++ codes "\n" ++ job.1

-- ---- the variables

abbrev pub outcome : HookEvent → List ℕ × List ℕ
outcome (Overrun peers) = (codes "CRONSAFE_MAY_MEET", peers)
outcome (Failure status seconds) = (codes "CRONSAFE_STATUS", status)
outcome (Limit peers) = (codes "CRONSAFE_MAY_MEET", peers)
outcome (Success seconds) = (codes "CRONSAFE_STATUS", codes "0")

abbrev pub seconds_of : HookEvent → Option ℕ
seconds_of (Failure status seconds) = seconds
seconds_of (Success seconds) = seconds
seconds_of (Overrun peers) = None
seconds_of (Limit peers) = None

abbrev pub seconds_text : Option ℕ → List ℕ
seconds_text None = []
seconds_text (Some seconds) = decimal seconds

-- what happened, to which run, its status or which jobs may meet it, and what is known of its job
abbrev pub hook_variables : List ℕ → HookCall → JobWords → List ℕ → List ℕ
    → List (List ℕ × List ℕ)
hook_variables event call job seconds table =
    (codes "CRONSAFE_EVENT", event) ∷ (codes "CRONSAFE_RUN", call.run) ∷ outcome call.event
    ∷ (codes "CRONSAFE_JOB", job.0) ∷ (codes "CRONSAFE_COMMAND", job.1)
    ∷ (codes "CRONSAFE_USER", job.2) ∷ (codes "CRONSAFE_SECONDS", seconds)
    ∷ (codes "CRONSAFE_OUTPUT", call.output) ∷ (codes "CRONSAFE_TABLE", table) ∷ []

-- ---- what is started

-- an event, and the command for it, if one is given
abbrev pub Ask : Type 0
Ask = List ℕ × Option (List ℕ)

abbrev pub ask_in : Bor (List ℕ) × Option (Bor (List ℕ)) → Ask
ask_in ask = (ask.0.now, option_map (λ command. command.now) ask.1)

-- A failure within an hour of one that was called isn't called, and a run recovers if the one of
-- its job before it failed. `called` is when the last failure of the job was called, if it did.
abbrev pub asks : AskedRun → Option ℕ → ℕ → HookEvent → List Ask
asks a called now (Overrun peers) = (codes "overrun", a.on_overrun) ∷ []
asks a called now (Limit peers) = (codes "limit", a.on_limit) ∷ []
asks a called now (Failure status seconds) =
    if is_quiet called now then [] else (codes "failure", a.on_failure) ∷ []
asks a called now (Success seconds) =
    (codes "success", a.on_success)
    ∷ (if is_some called then (codes "recovered", a.on_recovered) ∷ [] else [])

-- for an output, if the run has a file for it
abbrev pub mail_of : Option (List ℕ) → List ℕ → Option (List ℕ)
mail_of command [] = None
mail_of command (byte ∷ path) = command

-- after an end
abbrev pub mail_for : AskedRun → HookCall → Option (List ℕ)
mail_for a call = elim call.event [
  | Overrun peers ↦ None
  | Limit peers ↦ None
  | Failure status seconds ↦ mail_of a.mail call.output
  | Success seconds ↦ mail_of a.mail call.output
]

-- an event and its command, if there is one
abbrev pub given : Ask → List (List ℕ × List ℕ)
given (event, None) = []
given (event, Some command) = (event, command) ∷ []

-- a command, its variables, and the file that it gets
abbrev pub Hook : Type 0
Hook = List ℕ × List (List ℕ × List ℕ) × Option (List ℕ)

abbrev pub hook_of : HookCall → JobWords → List ℕ → List ℕ → Option (List ℕ)
    → List ℕ × List ℕ → Hook
hook_of call job seconds table input ask =
    (ask.1, hook_variables ask.0 call job seconds table, input)

-- what is started for a call
abbrev pub hooks_of : AskedRun → List JobNote → ℕ → Memory → HookCall → List Hook
hooks_of a jobs now failing call =
    let job = words_of (note_of call.run jobs) in
    let hook = hook_of call job (seconds_text (seconds_of call.event)) a.check.table in
    let called = called_at failing (key_of job) in
    map (hook None) (flat_map given (asks a called now call.event))
    ++ map (hook (Some call.output)) (given (codes "mail", mail_for a call))

-- which jobs are known to fail after it
abbrev pub known_after : List JobNote → ℕ → Memory → HookCall → Memory
known_after jobs now failing call =
    let key = key_of (words_of (note_of call.run jobs)) in
    remembered failing key call.event (is_quiet (called_at failing key) now) now

abbrev pub hooks_more : AskedRun → List JobNote → ℕ → List Hook × Memory → HookCall
    → List Hook × Memory
hooks_more a jobs now before call =
    (before.0 ++ hooks_of a jobs now before.1 call, known_after jobs now before.1 call)

-- what is started for calls that come one after another, and which jobs are known to fail then
abbrev pub hooks_along : AskedRun → List JobNote → ℕ → Memory → List HookCall
    → List Hook × Memory
hooks_along a jobs now failing calls = fold (hooks_more a jobs now) ([], failing) calls

abbrev pub hook_line : List ℕ → Bool → List ℕ
hook_line command is_started =
    codes "outside of the plan: "
    ++ (if is_started then codes "started " else codes "can't start ") ++ command
