-- What is ordered when a daemon has read its files again.
use Rattle.std.specs.Prelude.{◌≡◌, ◌≢◌, ℕ, List, [], ◌++◌, Option, codes, ⊤}
use Rattle.cs_args.specs.Asked.{asked_run, AskedRun}
use Rattle.cs_args.specs.declared.request.RunWords.{RunWords}
use Rattle.cs_check.specs.Checked.{IsHeadline, plan_in}
use Rattle.cs_io.specs.Files.{Failed}
use Rattle.cs_ruling.specs.Answer.{AnswersRun}
use Rattle.cs_ruling.specs.declared.answer.Answer.{Answer}
use Rattle.cs_ruling.specs.declared.answer.Answer.TheVariants.{Ends, Runs}
use Rattle.cs_ruling.specs.declared.answer.Order.{Order}
use Rattle.cs_plan.specs.Plan.{as_plan}
use Rattle.cs_report.specs.Warning.{warnings}
use Rattle.cs_serve.specs.declared.anew.Rejection.{Rejection}
use Rattle.cs_serve.specs.declared.anew.Rejection.TheVariants.{Answered, NoFile, NoLog, NoMemory, NoOutput, NotRoot, StandardInput}

-- `run` would answer so to these files, with some warnings before
abbrev pub RunAnswers : AskedRun → (List ℕ → Option (List ℕ)) → Failed → Failed → Answer → Type 0
RunAnswers a files before failed answer =
    (w : List ℕ) × AnswersRun a files w before failed answer

-- to some files `run` would answer with this order
abbrev pub IsOfFiles : Order → Type 0
IsOfFiles order = ∥ ((a : AskedRun) × (files : (List ℕ → Option (List ℕ))) × (before : Failed)
    × (failed : Failed) × RunAnswers a files before failed (Runs order)) ∥₁

-- why an order of `run` isn't accepted: only root can run commands with owners, or memory ran out
abbrev pub Hinders : Order → Rejection → Type 0
Hinders order NotRoot = order.owners ≢ []
Hinders order NoMemory = ⊤
Hinders order other = ⊥

-- why files aren't accepted: the ending that `run` would have, or why its order isn't; of what the
-- machine has no file for, nothing is said
abbrev pub IsRejection : AskedRun → (List ℕ → Option (List ℕ)) → Failed → Failed → Rejection → Type 0
IsRejection a files before failed (Answered ending) = RunAnswers a files before failed (Ends ending)
IsRejection a files before failed NotRoot =
    (order : Order) × RunAnswers a files before failed (Runs order) × Hinders order NotRoot
IsRejection a files before failed other = ⊤

-- the warnings of the tables, which `run` writes while it reads them, and then those of its order
abbrev pub warned : Order → List ℕ
warned order = warnings (plan_in order.checked).crontab (plan_in order.checked).anacrontab
    ++ order.warnings

-- such an order by these words
abbrev pub next_by : RunWords → Order → Order
next_by words order = record {
  checked = order.checked;
  owners = order.owners;
  warnings = warned order;
  declarations = order.declarations;
  words = words;
  digests = order.digests;
}

-- these words order it: the checker has accepted its plan, so that each legal history of that is
-- safe, and else it is what `run` would order of some files
pub record IsOrderOf (a : AskedRun) (next : Order) : Type 0 where
  pub words : asked_run next.words ≡ a
  pub headline : IsHeadline (as_plan (plan_in next.checked))
  pub read : (order : Order) × IsOfFiles order × (next ≡ next_by next.words order)

-- the status of a reload whose files aren't accepted
abbrev pub rejected_status : Rejection → ℕ
rejected_status (Answered ending) = ending.status
rejected_status StandardInput = 6
rejected_status NoFile = 6
rejected_status NoLog = 6
rejected_status NoOutput = 6
rejected_status NotRoot = 6
rejected_status NoMemory = 5

-- what is written of it: of an answer first what it has for standard error
abbrev pub rejected_text : Rejection → List ℕ
rejected_text (Answered ending) = ending.err ++ ending.out
rejected_text StandardInput = codes "cronsafe: can't read standard input again\n"
rejected_text NoFile = codes "cronsafe: can't read a pipe, a device or a folder again\n"
rejected_text NoLog = codes "cronsafe: can't write the log\n"
rejected_text NoOutput = codes "cronsafe: no folder for the output of jobs\n"
rejected_text NotRoot = codes "cronsafe: only root can run a gathered table\n"
rejected_text NoMemory = codes "cronsafe: out of memory\n"
