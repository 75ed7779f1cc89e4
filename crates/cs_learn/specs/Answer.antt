-- The answer to `learn`.
use Rattle.std.specs.Prelude.{◌≡◌, ◌⊎◌, ◌++◌, ℕ, true, List, [], codes, Contains, Option, Some, None}
use Rattle.std.specs.Prelude.{Result, Ok, Err}
use Rattle.clap.specs.Words.{Text}
use Rattle.cs_args.specs.Asked.{AskedLearn}
use Rattle.cs_io.specs.Files.{Failed, IsTooLong}
use Rattle.cs_io.specs.declared.inputs.ReadFault.{ReadFault}
use Rattle.cs_io.specs.declared.inputs.ReadFault.TheVariants.{CannotRead, OutOfMemory}
use Rattle.cs_files.specs.Asked.{Answers, FindsTables}
use Rattle.cs_files.specs.Reads.{AndThen, GivesSome}
use Rattle.cs_files.specs.Response.{Ending}
use Rattle.cs_files.specs.Turn.{table_paths}
use Rattle.cs_files.specs.Trouble.{TellsPath, Trouble, Unread}
use Rattle.cs_files.specs.declared.asked.Tables.{Tables}
use Rattle.cs_learn.specs.Learned.{IsLearned}
use Rattle.cs_learn.specs.Max.{factor_in}
use Rattle.cs_learn.specs.declared.answer.Learnable.{Learnable}
use Rattle.cs_learn.specs.declared.log.Log.{Log}

-- the tables, and then the logs
abbrev pub learned_paths : AskedLearn → List Text
learned_paths a = table_paths a.table a.anacrontab ++ a.logs

-- one of the logs can't be read, or not to its end
abbrev pub IsUnreadLog : (List ℕ → Option (List ℕ)) → List Text → Failed → Failed → Trouble → Type 0
IsUnreadLog files logs before after t = (path : Text) × Contains logs path × TellsPath path t
    × ((after path ≡ true) ⊎ ((after ≡ before) × IsTooLong path files))

-- no log failed to be read, or one did
abbrev pub ReadsLogs : (List ℕ → Option (List ℕ)) → List Text → Failed → Failed
    → Result Log Trouble → Type 0
ReadsLogs files logs before after (Ok log) = after ≡ before
ReadsLogs files logs before after (Err t) = IsUnreadLog files logs before after t

abbrev pub AreLearnable : ℕ → Tables → Log → Option Learnable → Type 0
AreLearnable factor tables log found =
    found ≡ Some (record { factor = factor; tables = tables; log = log })

-- the tables and then the logs; without a factor the call ends before a file is read
abbrev pub FindsBy : Option ℕ → AskedLearn → (List ℕ → Option (List ℕ)) → List ℕ → Failed → Failed
    → Result (Option Learnable) Trouble → Type 0
FindsBy None a files w before after r = (w ≡ []) × (after ≡ before) × (r ≡ Ok None)
FindsBy (Some factor) a files w before after r = AndThen (FindsTables files a.table a.anacrontab w)
    (λ tables. AndThen (ReadsLogs files a.logs)
    (λ log. GivesSome (AreLearnable factor tables log))) before after r

abbrev pub FindsLearnable : AskedLearn → (List ℕ → Option (List ℕ)) → List ℕ → Failed → Failed
    → Result (Option Learnable) Trouble → Type 0
FindsLearnable a = FindsBy (factor_in a.factor) a

-- the answer to a word that is no factor
abbrev pub no_factor : Text → Ending
no_factor text = record {
  status = 4;
  out = [];
  err = (codes "error: --factor is a number from 1 to 10 with at most two decimals: " ++ text)
      ++ codes "\n";
}

-- the longest times that the logs give are printed, or none are, with status 2
abbrev pub PrintsLearned : Text → Option Learnable → Ending → Type 0
PrintsLearned factor None ending = ending ≡ no_factor factor
PrintsLearned factor (Some x) ending =
    ((ending.status ≡ 0) × IsLearned x.tables.crontab.lines x.tables.jobs.lines x.log.jobs.items
    x.factor ending.out)
    ⊎ ((ending.status ≡ 2) × (ending.out ≡ []))

-- that answer, or the first fault of the files
abbrev pub AnswersLearn : AskedLearn → (List ℕ → Option (List ℕ)) → List ℕ → Failed → Failed
    → Ending → Type 0
AnswersLearn a files w = Answers (FindsLearnable a files w) (PrintsLearned a.factor)

-- a log that can't be read; none where memory ran out
abbrev pub trouble_of : Text → ReadFault → Option Trouble
trouble_of path (CannotRead reason) = Some (Unread path reason)
trouble_of path OutOfMemory = None
