-- What a run of the program writes, and its status.
use Rattle.std.specs.Prelude.{◌⊎◌, ◌++◌, ℕ, List, Option, codes}
use Rattle.cs_args.specs.Asked.{Text}
use Rattle.cs_io.specs.Files.{Failed, Reads}
use Rattle.cs_ruling.specs.Answer.{IfEnds}
use Rattle.cs_ruling.specs.declared.answer.Answer.{Answer}
use Rattle.cs_ruling.specs.declared.answer.Answer.TheVariants as answers
use Rattle.cs_files.specs.Trouble.{IsHonest}
use Rattle.cronsafe.specs.Call.{Answers}
use Rattle.cronsafe.specs.Turn.{WarnsOn}
use Rattle.cs_files.specs.Asked.{Tells as TellsFirst}
use Rattle.cs_files.specs.Ending.{Ends, RunsOut, Sink, Tries}
use Rattle.cs_files.specs.Response.{Ending}
use Rattle.cs_args.specs.Asked.{asked_stop}
use Rattle.cs_ask.specs.Applying.{Applies}
use Rattle.cs_ask.specs.Reloading.{Reloads}
use Rattle.cs_serve.specs.Serve.{ServesOrTries}
use Rattle.cs_ask.specs.Stopping.{Stops}
use Rattle.cs_ask.specs.Telling.{Tells}

-- an ending or an order is carried out, or a daemon is stopped, reads its files again, first with a
-- new certificate, or shows its state
abbrev pub CarriesOut : Answer → Sink → Sink → Sink → Sink → ℕ → Type 0
CarriesOut (answers.Ends ending) out-old out-new err-old err-new status =
    Ends ending out-old out-new err-old err-new status
CarriesOut (answers.Runs order) out-old out-new err-old err-new status =
    ServesOrTries order out-old out-new err-old err-new status
CarriesOut (answers.Stops words) out-old out-new err-old err-new status =
    Stops (asked_stop words) out-old out-new err-old err-new status
CarriesOut (answers.Reloads words) out-old out-new err-old err-new status =
    Reloads words.stamps.now out-old out-new err-old err-new status
CarriesOut (answers.Applies certificate stamps made) out-old out-new err-old err-new status =
    Applies certificate.now stamps.now made out-old out-new err-old err-new status
CarriesOut (answers.Tells words) out-old out-new err-old err-new status =
    Tells words.stamps.now out-old out-new err-old err-new status

-- the words are answered so, and the answer is carried out
abbrev pub Carries : List Text → (List ℕ → Option (List ℕ)) → List ℕ → Failed → Failed → Reads
    → Answer → Sink → Sink → Sink → Sink → ℕ → Type 0
Carries words files w before failed reads answer out-old out-new err-old err-new status =
    Answers words files w before failed answer
    × IfEnds (IsHonest failed reads) answer
    × CarriesOut answer out-old out-new err-old err-new status

-- the warnings are written if they can be, and then the words are answered, or memory ran out
abbrev pub Runs : List Text → (List ℕ → Option (List ℕ)) → Failed → Failed → Reads
    → Reads → Sink → Sink → Sink → Sink → ℕ → Type 0
Runs words files before failed reads-old reads-new out-old out-new err-old err-new status =
    (warned : Sink) × TellsFirst (λ w. WarnsOn words files before reads-old reads-new w
    × (((answer : Answer)
    × Carries words files w before failed reads-new answer out-old out-new warned err-new status)
    ⊎ RunsOut out-old out-new warned err-new status)) err-old warned

-- a call over these files ends so, whatever warnings are written first
abbrev pub IsEndingOf : List Text → (List ℕ → Option (List ℕ)) → Failed → Failed → Ending → Type 0
IsEndingOf words files before failed ending =
    (w : List ℕ) × Answers words files w before failed (answers.Ends ending)

-- how the files are refused, and that others are run
abbrev pub replaced_text : Ending → List ℕ
replaced_text ending =
    ending.err ++ ending.out ++ codes "cronsafe: the files that were accepted last are run\n"

-- so ends a call over these files, and that is reported
abbrev pub IsReplaced : List Text → (List ℕ → Option (List ℕ)) → Failed → Failed → Sink → Sink → Type 0
IsReplaced words files before failed old new = (ending : Ending)
    × IsEndingOf words files before failed ending × Tries (replaced_text ending) old new
