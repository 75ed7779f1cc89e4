-- The answer to the words of a call.
use Rattle.std.specs.Prelude.{◌≡◌, ◌≢◌, ◌⊎◌, ℕ, List, [], Option, Some, Result, Ok, Err}
use Rattle.std.specs.Option.{option_map}
use Rattle.cs_args.specs.Asked.{Text}
use Rattle.cs_args.specs.Asked.{Apply, AskedApply, Asking, Check, Day, Help, Judge, Make, Reload}
use Rattle.cs_args.specs.declared.request.Format.{Format}
use Rattle.cs_args.specs.declared.request.Format.TheVariants.{Text as text}
use Rattle.cs_args.specs.CommandLine.{Asks}
use Rattle.cs_args.specs.Asked.{Replay, Run, Status, Stop, Wall}
use Rattle.cs_args.specs.Asked.{asked_reload, asked_replay, asked_run, asked_status, asked_stop}
use Rattle.cs_args.specs.CommandLine.{AsksHelp, AsksVersion, IsNoCall}
use Rattle.cs_io.specs.Files.{Failed}
use Rattle.cs_files.specs.Asked.{FindsPlan}
use Rattle.cs_files.specs.Response.{Ending}
use Rattle.cs_files.specs.Trouble.{Trouble, ends, trouble}
use Rattle.cs_files.specs.declared.fault.Fault.{Fault}
use Rattle.cs_files.specs.declared.asked.Planned.{Planned}
use Rattle.cs_files.specs.Usage.{IsRejected, ShowsHelp, ShowsVersion}
use Rattle.cs_findings.specs.Format.{IsIn, IsShownAs}
use Rattle.cs_show.specs.DayAnswer.{AnswersDay, shown}
use Rattle.cs_show.specs.Replayed.{AnswersReplay, IsReplyTo}
use Rattle.cs_show.specs.WallAnswer.{AnswersWall, IsRuleRefused, wall_shown}
use Rattle.cs_ruling.specs.Answer.{AnswersRun, EndsAs, IsRuled}
use Rattle.cs_ruling.specs.Safe.{IsChecked, IsReplyOn}
use Rattle.cs_ruling.specs.declared.answer.Answer.{Answer}
use Rattle.cs_ruling.specs.declared.answer.Answer.TheVariants.{Applies, Ends, Reloads, Stops, Tells}
use Rattle.cs_cli.specs.Judge.{AnswersJudge, AnswersMake, IsJudged}
use Rattle.cs_judge.specs.declared.answers.Wanted.TheVariants.{Compact, Verdict}
use Rattle.cronsafe.specs.declared.responding.Task.{Task}
use Rattle.cronsafe.specs.declared.responding.Task.TheVariants as task

-- the certificate of an ending of which this holds is put at a path, for the daemon of this folder
abbrev pub AppliesAs : Text → Text → (Ending → Type 0) → Answer → Type 0
AppliesAs certificate stamps P (Applies path folder made) =
    (path.now ≡ certificate) × (folder.now ≡ stamps) × P made
AppliesAs certificate stamps P other = ⊥

-- what comes of `apply`: the first fault of a file, or what `make --compact` answers to the plan
abbrev pub AnswersApply : AskedApply → (List ℕ → Option (List ℕ)) → List ℕ → Failed → Failed → Answer
    → Type 0
AnswersApply a files w before failed answer =
    ((t : Trouble)
    × FindsPlan files a.judge.table a.judge.anacrontab a.judge.declarations w before failed (Err t)
    × EndsAs (λ ending. ending ≡ ends [] t) answer)
    ⊎ ((planned : Planned)
    × FindsPlan files a.judge.table a.judge.anacrontab a.judge.declarations w before failed
    (Ok planned)
    × AppliesAs a.certificate a.stamps (IsJudged Compact planned.plan planned.places) answer)

-- the answer to a subcommand after these warnings; one of the aids is refused
abbrev pub AnswersAsked : Asking → (List ℕ → Option (List ℕ)) → List ℕ → Failed → Failed → Answer
    → Type 0
AnswersAsked (Day a) files w before failed = EndsAs (AnswersDay a files w before failed)
AnswersAsked (Wall a) files w before failed = EndsAs (AnswersWall a files w before failed)
AnswersAsked (Replay a) files w before failed = EndsAs (AnswersReplay a files w before failed)
AnswersAsked (Check a) files w before failed =
    EndsAs (IsIn a.format (IsChecked a files w before failed))
AnswersAsked (Run a) files w before failed = AnswersRun a files w before failed
AnswersAsked (Stop a) files w before failed = λ answer. (failed ≡ before)
    × ((words : _) × (asked_stop words ≡ a) × (answer ≡ Stops words))
AnswersAsked (Reload a) files w before failed = λ answer. (failed ≡ before)
    × ((words : _) × (asked_reload words ≡ a) × (answer ≡ Reloads words))
AnswersAsked (Apply a) files w before failed = AnswersApply a files w before failed
AnswersAsked (Status a) files w before failed = λ answer. (failed ≡ before)
    × ((words : _) × (asked_status words ≡ a) × (answer ≡ Tells words))
AnswersAsked (Judge a) files w before failed =
    EndsAs (IsIn a.format (AnswersJudge a files w before failed))
AnswersAsked (Make a) files w before failed = EndsAs (AnswersMake a files w before failed)
AnswersAsked Help files w before failed = EndsAs (ShowsHelp before failed)
AnswersAsked aid files w before failed = EndsAs (IsRejected before failed)

-- the reply to what the files of a call hold
abbrev pub IsReply : Task → Answer → Type 0
IsReply (task.Day q tables) = EndsAs (λ ending. ending ≡ shown q tables)
IsReply (task.Wall q c tables) = EndsAs (λ ending. ending ≡ wall_shown q c tables)
IsReply (task.BadRule fault) = EndsAs IsRuleRefused
IsReply (task.Replay words found) = EndsAs (IsReplyTo (asked_replay words) found)
IsReply (task.Check words claimed) = EndsAs (IsIn words.format (IsReplyOn claimed))
IsReply (task.Run words claimed) = IsRuled (asked_run words) claimed
IsReply (task.Judge words planned) =
    EndsAs (IsIn words.format (IsJudged Verdict planned.plan planned.places))
IsReply (task.Make wanted planned) = EndsAs (IsJudged wanted planned.plan planned.places)
IsReply (task.Stop words) = λ answer. answer ≡ Stops words
IsReply (task.Reload words) = λ answer. answer ≡ Reloads words
IsReply (task.Apply certificate stamps planned) =
    AppliesAs certificate.now stamps.now (IsJudged Compact planned.plan planned.places)
IsReply (task.Status words) = λ answer. answer ≡ Tells words
IsReply task.Aid = EndsAs (λ ending. (ending.status ≡ 4) × (ending.out ≡ []))

-- the format in which a call is answered: only `judge` and `check` have another one than text
abbrev pub format_of : Asking → Format
format_of (Check a) = a.format
format_of (Judge a) = a.format
format_of other = text

-- the answer to a fault in a format; where its status isn't 3, it is as text
abbrev pub IsFaultIn : Format → Fault → Ending → Type 0
IsFaultIn format fault ending = (plain : Ending) × (option_map (ends []) (trouble fault) ≡ Some plain)
    × IsShownAs format plain ending × (plain.status ≢ 3 → ending ≡ plain)

-- what the files hold leads to the answer to a call: each reply to it is that, or it is a fault,
-- and that is reported in the call's format
abbrev pub Leads : Asking → (List ℕ → Option (List ℕ)) → List ℕ → Failed → Failed
    → Result Task Trouble → Type 0
Leads a files w before failed (Ok task) =
    (answer : Answer) → IsReply task answer → AnswersAsked a files w before failed answer
Leads a files w before failed (Err t) = (ending : Ending)
    → IsShownAs (format_of a) (ends [] t) ending → AnswersAsked a files w before failed (Ends ending)

-- the answer to words: what they ask, help, the version, or that they aren't a call
abbrev pub Answers : List Text → (List ℕ → Option (List ℕ)) → List ℕ → Failed → Failed → Answer
    → Type 0
Answers words files w before failed answer =
    ((a : Asking) × Asks words a × AnswersAsked a files w before failed answer)
    ⊎ ((AsksHelp words × EndsAs (ShowsHelp before failed) answer)
    ⊎ ((AsksVersion words × EndsAs (ShowsVersion before failed) answer)
    ⊎ (IsNoCall words × EndsAs (IsRejected before failed) answer)))
