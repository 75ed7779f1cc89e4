-- The answer to the words of a call.
use Rattle.std.specs.Prelude.{◌≡◌, ◌⊎◌, ℕ, true, ⊤, List, [], None, Option, Result, Ok, Err, Some}
use Rattle.cs_args.specs.Asked.{Text}
use Rattle.cs_args.specs.Asked.{Advise, Asking, Chart, Diff, Draft, Explain, Gather, Help}
use Rattle.cs_args.specs.Asked.{JudgeAll}
use Rattle.cs_args.specs.CommandLine.{Asks}
use Rattle.cs_args.specs.Asked.{Learn, Lint, LintAll, Next, Room}
use Rattle.cs_args.specs.CommandLine.{AsksHelp, AsksVersion, IsNoCall}
use Rattle.cs_args.specs.declared.request.Format.{Format}
use Rattle.cs_args.specs.declared.request.Format.TheVariants as format
use Rattle.cs_args.specs.declared.request.JudgeWords.{JudgeWords}
use Rattle.cs_io.specs.Files.{Failed, Reads}
use Rattle.cs_io.specs.Folders.{Tree}
use Rattle.cs_all.specs.Answer.{AnswersAll}
use Rattle.cs_files.specs.Asked.{Answers as AnswersOn, FindsTables}
use Rattle.cs_findings.specs.Format.{IsIn}
use Rattle.cs_files.specs.Response.{Ending}
use Rattle.cs_files.specs.Trouble.{IsHonest, Trouble, ends}
use Rattle.cs_files.specs.Usage.{IsRejected, ShowsHelp, ShowsVersion}
use Rattle.cs_gather.specs.Answer.{AnswersGather}
use Rattle.cs_explain.specs.Answer.{AnswersExplain, IsExplained}
use Rattle.cs_draft.specs.Answer.{AnswersDraft, PrintsDraft}
use Rattle.cs_learn.specs.Answer.{AnswersLearn, PrintsLearned}
use Rattle.cs_chart.specs.Answer.{AnswersChart, IsDrawn}
use Rattle.cs_lint.specs.Answer.{AnswersLint}
use Rattle.cs_advise.specs.Answer.{AnswersAdvise, AnswersRoom, IsAdvisedOf}
use Rattle.cs_diff.specs.Answer.{IsDiff}
use Rattle.cs_plan.specs.Plain.{is_possible_max}
use Rattle.cs_plan.specs.Plan.{Declared}
use Rattle.cronsafe_aids.specs.declared.now.Now.{Now}
use Rattle.cronsafe_aids.specs.declared.responding.Task.{Task}
use Rattle.cronsafe_aids.specs.declared.responding.Task.TheVariants as task

-- the first fault of a file or of the words, or what an edit changes from one plan to another
abbrev pub AnswersDiff : Ending → Type 0
AnswersDiff ending = ((t : Trouble) × (ending ≡ ends [] t))
    ⊎ ((old new : Declared) × ((ending.status ≡ 3) ⊎ IsDiff old new ending))

-- The answer to a subcommand at this time as text, after warnings `w`; those of the other program
-- are rejected.
abbrev pub AnswersText : Now → Asking → Tree → (List ℕ → Option (List ℕ)) → List ℕ → Failed → Failed
    → Ending → Type 0
AnswersText now (Advise a) tree files w before failed = AnswersAdvise a files w before failed
AnswersText now (Room a) tree files w before failed = AnswersRoom a files w before failed
AnswersText now (Gather a) tree files w before failed = AnswersGather a tree files failed
AnswersText now (Draft a) tree files w before failed =
    AnswersDraft a now.offset now.zone.now files w before failed
AnswersText now (Learn a) tree files w before failed = AnswersLearn a files w before failed
AnswersText now (Lint a) tree files w before failed = AnswersLint a files before failed
AnswersText now (Chart a) tree files w before failed = AnswersChart a files w before failed
AnswersText now (Explain name) tree files w before failed = AnswersExplain before failed
AnswersText now (JudgeAll a) tree files w before failed = AnswersAll
AnswersText now (LintAll a) tree files w before failed = AnswersAll
AnswersText now (Next a) tree files w before failed =
    AnswersOn (FindsTables files a.table a.anacrontab w) (λ tables ending. ⊤) before failed
AnswersText now (Diff a) tree files w before failed = AnswersDiff
AnswersText now Help tree files w before failed = ShowsHelp before failed
AnswersText now other tree files w before failed = IsRejected before failed

-- the form of the answer; where it isn't said here, it is text or part of the answer
abbrev pub form_of : Asking → Format
form_of (Advise a) = a.judge.format
form_of (Room a) = a.format
form_of other = format.Text

-- by the words that have one
abbrev pub form_for : Option JudgeWords → Format
form_for None = format.Text
form_for (Some words) = words.format

-- in another form than text, all but standard output is as in text
abbrev pub AnswersAsked : Now → Asking → Tree → (List ℕ → Option (List ℕ)) → List ℕ → Failed → Failed
    → Ending → Type 0
AnswersAsked now a tree files w before failed =
    IsIn (form_of a) (AnswersText now a tree files w before failed)

-- status 6 is honest, if not of all tables below folders, where it is that of those that can't be
-- read
abbrev pub IsHonestFor : Asking → Failed → Reads → Ending → Type 0
IsHonestFor (JudgeAll a) failed reads ending = ⊤
IsHonestFor (LintAll a) failed reads ending = ⊤
IsHonestFor other failed reads ending = IsHonest failed reads ending

-- so it is of what the words ask
abbrev pub IsHonestOn : List Text → Failed → Reads → Ending → Type 0
IsHonestOn words failed reads ending =
    ((a : Asking) × Asks words a × IsHonestFor a failed reads ending)
    ⊎ IsHonest failed reads ending

-- where the answer was made while the files were read, P holds of it
abbrev pub IfReady : (Ending → Type 0) → Task → Type 0
IfReady P (task.Ready ending) = P ending
IfReady P _ = ⊤

-- a reply to what the files of a call hold, at this time
abbrev pub IsReply : Now → Task → Ending → Type 0
IsReply now (task.Advise words question planned) =
    IsIn words.format (IsAdvisedOf question planned)
IsReply now (task.Draft words found) = λ ending.
    is_possible_max words.max ≡ true
    → PrintsDraft words.max now.offset now.zone.now found ending
IsReply now (task.Learn factor found) = PrintsLearned factor.now found
IsReply now (task.Chart words q found) = IsDrawn q words.days found
IsReply now (task.Explain name) = IsExplained
IsReply now (task.Next words found) = λ ending. ⊤
IsReply now (task.Diff words old new) = λ ending.
    (ending.status ≡ 3) ⊎ IsDiff old.plan new.plan ending
IsReply now (task.Ready ready) = λ ending. ending ≡ ready
IsReply now task.Other = λ ending. (ending.status ≡ 4) × (ending.out ≡ [])

-- each reply to what the files hold answers the call, and so does the report of a fault as text
abbrev pub Leads : Now → Asking → Tree → (List ℕ → Option (List ℕ)) → List ℕ → Failed → Failed
    → Result Task Trouble → Type 0
Leads now a tree files w before failed (Ok task) = (ending : Ending)
    → IsReply now task ending → AnswersAsked now a tree files w before failed ending
Leads now a tree files w before failed (Err t) =
    AnswersText now a tree files w before failed (ends [] t)

-- the answer to what the words ask: a subcommand, help or the version; or the words are rejected
abbrev pub Answers : Now → List Text → Tree → (List ℕ → Option (List ℕ)) → List ℕ → Failed → Failed
    → Ending → Type 0
Answers now words tree files w before failed ending =
    ((a : Asking) × Asks words a × AnswersAsked now a tree files w before failed ending)
    ⊎ ((AsksHelp words × ShowsHelp before failed ending)
    ⊎ ((AsksVersion words × ShowsVersion before failed ending)
    ⊎ (IsNoCall words × IsRejected before failed ending)))
