-- The answer to `replay`: each event of a script, as the rules of histories have it.
use Rattle.std.specs.Prelude.{◌≡◌, ◌<◌, ◌⊎◌, ℕ, Bool, true, false, ◌||◌, if◌then◌else◌}
use Rattle.std.specs.Prelude.{List, [], ◌++◌, length, Option, Some, None, IfSome, Result, Ok, Err}
use Rattle.clap.specs.Words.{Text}
use Rattle.cs_crontab.specs.Crontab.{Table}
use Rattle.cs_anacrontab.specs.Anacrontab.{Table as JobTable}
use Rattle.cs_plan.specs.Plain.{is_possible_max, plain_of}
use Rattle.cs_plan.specs.Plan.{Declared}
use Rattle.cs_report.specs.Faults.{Means as MeansScript}
use Rattle.cs_report.specs.Grammar.{Numbered}
use Rattle.cs_report.specs.Script.{Fault as ScriptFault}
use Rattle.cs_report.specs.declared.script.TheConstants.{MAX_SCRIPT}
use Rattle.cs_report.specs.declared.script_fault.ScriptFault.TheVariants.{TooLong}
use Rattle.cs_args.specs.Asked.{AskedReplay}
use Rattle.cs_args.specs.declared.question.WordFault.TheVariants.{BadMax}
use Rattle.cs_io.specs.Files.{Failed, IsUpTo}
use Rattle.cs_files.specs.Asked.{Answers, AreTables, FindsTables, both_of}
use Rattle.cs_files.specs.Reads.{Gives, ReadsDeclared, planned}
use Rattle.cs_files.specs.declared.asked.Tables.{Tables}
use Rattle.cs_show.specs.declared.replay.Replayable.{Replayable}
use Rattle.cs_show.specs.Replay.{has_refusal, replay_text}
use Rattle.cs_show.specs.Verdict.{IsVerdict, MeansPart}
use Rattle.cs_files.specs.Response.{Ending, done}
use Rattle.cs_files.specs.Trouble.{InScript, InWords, TellsPath, Trouble, ends}

-- the plan of both tables with one longest time for all jobs, if a job may declare that
abbrev pub plain_planned : Table × JobTable → ℕ → Result Declared Trouble
plain_planned tables max =
    if is_possible_max max then planned (plain_of tables.0 tables.1 max) else Err (InWords BadMax)

-- the plan of both tables: as it is declared, or with one longest time for all jobs
abbrev pub ReadsPlan : (List ℕ → Option (List ℕ)) → Table × JobTable → ℕ → Option Text → Failed
    → Failed
    → Result Declared Trouble → Type 0
ReadsPlan files tables max None = Gives (plain_planned tables max)
ReadsPlan files tables max (Some path) = ReadsDeclared files tables path

-- the script that a log gives: some text, or none; none where the log is longer than a script may
-- be
abbrev pub IsToldBy : List ℕ → Option (List ℕ) → Type 0
IsToldBy log script = MAX_SCRIPT < length log → script ≡ None

abbrev pub too_long : ScriptFault
too_long = (0, TooLong)

-- what such a script means
abbrev pub MeansTold : Declared → Option (List ℕ) → Result Numbered ScriptFault → Type 0
MeansTold plan None meaning = meaning ≡ Err too_long
MeansTold plan (Some script) meaning = MeansScript plan script meaning

abbrev pub MeansLog : Declared → List ℕ → Result Numbered ScriptFault → Type 0
MeansLog plan log meaning = (script : Option (List ℕ)) × IsToldBy log script
    × MeansTold plan script meaning

-- with `--judge` a script may be what `judge` prints; with `--log` it is what a log gives
abbrev pub MeansGiven : Declared → Bool → Bool → List ℕ → Result Numbered ScriptFault → Type 0
MeansGiven plan judge false = MeansPart plan judge
MeansGiven plan judge true = MeansLog plan

-- the text of the script that a log gives
abbrev pub TellsScript : List ℕ → Result (List ℕ) ScriptFault → Type 0
TellsScript log (Ok script) = IsToldBy log (Some script)
TellsScript log (Err fault) = IsToldBy log None × (fault ≡ too_long)

-- the status is 1 where an event was refused
abbrev pub replayed : Declared → Numbered → Ending
replayed plan script = record {
  status = if has_refusal plan script then 1 else 0;
  out = replay_text plan script;
  err = [];
}

-- with `--judge` a line after it says what the script breaks, and the status is 1 too where
-- something goes wrong in it
abbrev pub IsReplayed : Bool → Declared → Numbered → Ending → Type 0
IsReplayed false plan script answer = answer ≡ replayed plan script
IsReplayed true plan script answer =
    (line : List ℕ) × (wrong : Bool) × IsVerdict plan script line wrong
    × (answer ≡ record {
      status = if has_refusal plan script || wrong then 1 else 0;
      out = replay_text plan script ++ line;
      err = [];
    })

-- each event of the script is tried; with `--script` the script that a log gives is shown
abbrev pub Replies : Bool → AskedReplay → Declared → List ℕ → Result Ending ScriptFault → Type 0
Replies false a plan text (Ok answer) = (script : Numbered)
    × MeansGiven plan a.judge a.log text (Ok script) × IsReplayed a.judge plan script answer
Replies false a plan text (Err fault) = MeansGiven plan a.judge a.log text (Err fault)
Replies true a plan text (Ok answer) =
    (script : List ℕ) × TellsScript text (Ok script) × (answer ≡ done script [])
Replies true a plan text (Err fault) = TellsScript text (Err fault)

abbrev pub MeansReply : AskedReplay → Declared → List ℕ → Result Ending ScriptFault → Type 0
MeansReply a = Replies a.show_script a

-- both tables denote this plan, and these are the bytes of the script, or both are longer than a
-- script may be
pub record IsReplayable (files : List ℕ → Option (List ℕ)) (a : AskedReplay) (w : List ℕ)
    (failed : Failed) (x : Replayable) : Type 0 where
  pub tables : Tables
  pub read : AreTables files a.table a.anacrontab w failed tables
  pub plan : ReadsPlan files (both_of tables) a.max a.declarations failed failed (Ok x.plan)
  pub script : IfSome (files a.script) (λ text. IsUpTo MAX_SCRIPT text x.script.items)

-- both tables, the plan and then the script, each file read in its turn, or the first fault
abbrev pub FindsScript : (List ℕ → Option (List ℕ)) → AskedReplay → List ℕ → Failed → Failed
    → Result Replayable Trouble → Type 0
FindsScript files a w before after (Ok x) = (after ≡ before) × IsReplayable files a w before x
FindsScript files a w before after (Err t) =
    FindsTables files a.table a.anacrontab w before after (Err t)
    ⊎ ((tables : Tables) × AreTables files a.table a.anacrontab w before tables
    × (ReadsPlan files (both_of tables) a.max a.declarations before after (Err t)
    ⊎ ((plan : Declared)
    × ReadsPlan files (both_of tables) a.max a.declarations before before (Ok plan)
    × (after a.script ≡ true) × TellsPath a.script t)))

-- the answer to a script, or to its fault
abbrev pub replied : Result Ending ScriptFault → Ending
replied (Ok answer) = answer
replied (Err fault) = ends [] (InScript fault)

-- so it is for any text that begins with the bytes that were read
abbrev pub IsReplyTo : AskedReplay → Replayable → Ending → Type 0
IsReplyTo a x ending = (r : Result Ending ScriptFault)
    × ((text : List ℕ) → IsUpTo MAX_SCRIPT text x.script.items → MeansReply a x.plan text r)
    × (ending ≡ replied r)

-- the answer to `replay`: the replayed script, or that of a log, or the first fault of a file, and
-- no file is read before its own turn
abbrev pub AnswersReplay : AskedReplay → (List ℕ → Option (List ℕ)) → List ℕ → Failed → Failed
    → Ending → Type 0
AnswersReplay a files w = Answers (FindsScript files a w) (IsReplyTo a)
