-- What a run of the program writes, and its status.
use Rattle.std.specs.Prelude.{◌⊎◌, ℕ, List, Option}
use Rattle.cs_args.specs.Asked.{Text}
use Rattle.cs_io.specs.Files.{Failed, Reads}
use Rattle.cs_io.specs.Folders.{Tree}
use Rattle.cs_files.specs.Asked.{Tells}
use Rattle.cs_files.specs.Ending.{Ends, RunsOut, Sink}
use Rattle.cs_files.specs.Response.{Ending}
use Rattle.cronsafe_aids.specs.Call.{Answers, IsHonestOn}
use Rattle.cronsafe_aids.specs.Turn.{WarnsOn}
use Rattle.cronsafe_aids.specs.declared.now.Now.{Now}

-- the words are answered, and the answer is written
abbrev pub Carries : Now → List Text → Tree → (List ℕ → Option (List ℕ)) → List ℕ → Failed → Failed
    → Reads → Ending → Sink → Sink → Sink → Sink → ℕ → Type 0
Carries now words tree files w before failed reads ending out-old out-new err-old err-new status =
    Answers now words tree files w before failed ending
    × IsHonestOn words failed reads ending
    × Ends ending out-old out-new err-old err-new status

-- warnings are written if they can be; then the words are answered, or memory runs out
abbrev pub Runs : Now → List Text → Tree → (List ℕ → Option (List ℕ)) → Failed → Failed → Reads
    → Reads → Sink → Sink → Sink → Sink → ℕ → Type 0
Runs now words tree files before failed reads-old reads-new out-old out-new err-old err-new status =
    (warned : Sink) × Tells (λ w. WarnsOn words files before reads-old reads-new w
    × (((ending : Ending) × Carries now words tree files w before failed reads-new ending
    out-old out-new warned err-new status)
    ⊎ RunsOut out-old out-new warned err-new status)) err-old warned
