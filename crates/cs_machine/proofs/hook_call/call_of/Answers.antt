use Rattle.std.proofs.Common.{rules, ◌≢◌, ◌++◌, ℕ, List, Option, codes}
use Rattle.cs_machine.specs.HookCall.{TellsEvent, TellsFailure, TellsSuccess}
use Rattle.cs_machine.specs.Limit.{limit_line}
use Rattle.cs_machine.specs.declared.hook_call.HookEvent.{HookEvent}
use Rattle.cs_machine.specs.declared.hook_call.HookEvent.TheVariants.{Failure, Limit, Overrun, Success}
use Rattle.cs_machine.specs.declared.setup.JobNote.{JobNote}
use Rattle.cs_machine.proofs.hook_call.call_of.Goals as goal

no_event : (words : List ℕ) (jobs : List JobNote) (span : Option ℕ) → ((run : List ℕ) → words ≢ codes "overrun " ++ run) → ((run status : List ℕ) → ¬ (TellsFailure words run status)) → ((run : List ℕ) → ¬ (TellsSuccess words run))
    → ((run : List ℕ) → words ≢ limit_line run) → (run : List ℕ) (event : HookEvent) → ¬ (TellsEvent words jobs span run event)
no_event words jobs span late failed done limited run (Overrun peers) told = late run told.0
no_event words jobs span late failed done limited run (Failure status seconds) told = failed run status told.0
no_event words jobs span late failed done limited run (Limit peers) told = limited run told.0
no_event words jobs span late failed done limited run (Success seconds) told = done run told.0

pub returns-in_default-limited_run-clause-none : goal.returns-in_default-limited_run-clause-none
returns-in_default-limited_run-clause-none c = λ _ it.
    let words = c.args.words.now in
    let late : (run : List ℕ) → words ≢ codes "overrun " ++ run = search rules in
    let failed : (run status : List ℕ) → ¬ (TellsFailure words run status) = c.failed_run.ensures.none (search rules) in
    let done : (run : List ℕ) → ¬ (TellsSuccess words run) = c.succeeded_run.ensures.none (search rules) in
    let limited : (run : List ℕ) → words ≢ limit_line run = c.limited_run.ensures.none (search rules) in
    no_event words c.args.setup.now.jobs.now c.args.seconds late failed done limited it.run it.event
