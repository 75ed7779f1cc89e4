-- What comes of stopping the daemon of a folder of stamps.
use Rattle.std.specs.Prelude.{◌≡◌, ◌⊎◌, ◌++◌, ℕ, List, [], true, codes}
use Rattle.cs_args.specs.Asked.{AskedStop}
use Rattle.cs_ask.specs.Asking.{MayTell, refused}
use Rattle.cs_files.specs.Ending.{Ends, RunsOut, Sink}
use Rattle.cs_files.specs.Response.{Ending, complaint}
use Rattle.cs_machine.specs.declared.last_word.StampsLeft.{StampsLeft}
use Rattle.cs_machine.specs.declared.last_word.StampsLeft.TheVariants.{AllWritten, Unknown, Unwritten}
use Rattle.cs_ask.specs.declared.asking.Refusal.{Refusal}

abbrev pub waiting_text : List ℕ
waiting_text = codes "cronsafe: waiting for the runs under way to end\n"

abbrev pub unwritten_text : List ℕ → List ℕ
unwritten_text jobs = codes "stamps not written: " ++ jobs

abbrev pub unknown_text : List ℕ
unknown_text = codes "can't tell whether all stamps are written"

abbrev pub unfinished : List ℕ → Ending
unfinished what = record { status = 1; out = []; err = complaint what }

-- Where stamps were left unwritten, or may have been, that is reported; or memory ran out.
abbrev pub Leaves : StampsLeft → Sink → Sink → Sink → Sink → ℕ → Type 0
Leaves AllWritten out-old out-new err-old err-new status =
    (status ≡ 0) × (out-new ≡ out-old) × (err-new ≡ err-old)
Leaves (Unwritten jobs) out-old out-new err-old err-new status =
    Ends (unfinished (unwritten_text jobs)) out-old out-new err-old err-new status
    ⊎ RunsOut out-old out-new err-old err-new status
Leaves Unknown out-old out-new err-old err-new status =
    Ends (unfinished unknown_text) out-old out-new err-old err-new status
    ⊎ RunsOut out-old out-new err-old err-new status

-- It may be reported that runs are waited for, but not with `--now`. Then the daemon is stopped,
-- and what it left unwritten is reported, or with `--now` nothing; or why it isn't; or memory ran
-- out.
abbrev pub Stops : AskedStop → Sink → Sink → Sink → Sink → ℕ → Type 0
Stops a out-old out-new err-old err-new status = (waited : Sink)
    × MayTell waiting_text err-old waited × (a.now ≡ true → waited ≡ err-old)
    × (((left : StampsLeft) × (a.now ≡ true → left ≡ AllWritten)
    × Leaves left out-old out-new waited err-new status)
    ⊎ (((refusal : Refusal)
    × Ends (refused refusal a.stamps) out-old out-new waited err-new status)
    ⊎ RunsOut out-old out-new waited err-new status))
