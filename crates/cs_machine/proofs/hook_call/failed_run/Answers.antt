use Rattle.std.proofs.Common.{rules, ◌≡◌, ◌≢◌, ◌++◌, ℕ, List, codes}
use Rattle.cs_machine.specs.HookCall.{TellsEnd}
use Rattle.cs_machine.proofs.Ends.{no_fail, no_failure}
use Rattle.cs_machine.proofs.hook_call.failed_run.Goals as goal

pub returns-then-eq-clause-none : goal.returns-then-eq-clause-none
returns-then-eq-clause-none c = λ _ run status fails.
    let none : (rest : List ℕ) → c.args.words.now ≢ codes "not started " ++ rest = search rules in
    let zero : c.in_ok-run.status.now ≡ codes "0" = search rules in
    no_failure c.args.words.now c.in_ok-run.run'.now c.in_ok-run.status.now none c.in_ok-run.ensures.some zero run status fails

pub returns-in_err-run-clause-none : goal.returns-in_err-run-clause-none
returns-in_err-run-clause-none c =
    let none : (rest : List ℕ) → c.args.words.now ≢ codes "not started " ++ rest = search rules in
    let ended : (run status : List ℕ) → ¬ (TellsEnd c.args.words.now run status) = c.in_err-run.ensures.none (search rules) in
    λ _. no_fail c.args.words.now none ended
