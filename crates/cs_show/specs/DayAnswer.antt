-- The answer to `day`.
use Rattle.std.specs.Prelude.{◌≡◌, ◌⊎◌, ℕ, List, [], ◌++◌, Option}
use Rattle.std.specs.Prelude.{flat_map}
use Rattle.cs_crontab.specs.declared.table.When.{When}
use Rattle.cs_crontab.specs.declared.table.When.TheVariants.{At, Reboot}
use Rattle.cs_crontab.specs.Crontab.{CommandLine}
use Rattle.cs_anacrontab.specs.Anacrontab.{JobLine}
use Rattle.cs_args.specs.Asked.{Asked}
use Rattle.cs_args.specs.Question.{IsBadWord, IsQuestion, Question}
use Rattle.cs_args.specs.Words.{word_fault}
use Rattle.cs_args.specs.declared.question.WordFault.{WordFault}
use Rattle.cs_io.specs.Files.{Failed}
use Rattle.cs_show.specs.DayText.{catch_up_text, date_line, job_text, reboot_text}
use Rattle.cs_files.specs.Asked.{Answers, FindsTables}
use Rattle.cs_files.specs.Response.{Ending, done}
use Rattle.cs_files.specs.Trouble.{InWords, ends}
use Rattle.cs_files.specs.declared.asked.Tables.{Tables}

abbrev pub when_text : Question → ℕ → When → List ℕ
when_text q number (At schedule) = job_text q.day q.max number schedule
when_text q number Reboot = reboot_text number

abbrev pub line_text : Question → CommandLine → List ℕ
line_text q line = when_text q line.number line.when

abbrev pub anacron_text : Question → JobLine → List ℕ
anacron_text q job = catch_up_text q.day q.max q.from q.to job.identifier

-- what `day` prints of both tables
unfoldable pub tables_text : Question → List CommandLine → List JobLine → List ℕ
tables_text q lines jobs =
    date_line q.day ++ (flat_map (line_text q) lines ++ flat_map (anacron_text q) jobs)

abbrev pub shown : Question → Tables → Ending
shown q tables = done (tables_text q tables.crontab.lines tables.jobs.lines) []

-- the answer to `day`: the first fault of DATE, MAX, the hours, the crontab and the anacrontab ends
-- the call, and no file is read before its own turn, or before the words ask a question
abbrev pub AnswersDay : Asked → (List ℕ → Option (List ℕ)) → List ℕ → Failed → Failed → Ending
    → Type 0
AnswersDay a files w before after ending =
    ((fault : WordFault) × IsBadWord a (word_fault fault) × (w ≡ []) × (after ≡ before)
    × (ending ≡ ends [] (InWords fault)))
    ⊎ ((q : Question) × IsQuestion a q
    × Answers (FindsTables files a.table a.anacrontab w) (λ tables e. e ≡ shown q tables)
    before after ending)
