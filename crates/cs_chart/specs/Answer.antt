-- The answer to `chart`.
use Rattle.std.specs.Prelude.{◌≡◌, ◌⊎◌, ℕ, List, [], Option, Some, None, Result, Ok}
use Rattle.clap.specs.Words.{Text}
use Rattle.cs_args.specs.Asked.{AskedChart}
use Rattle.cs_args.specs.Question.{IsBadWord, IsQuestion, Question}
use Rattle.cs_args.specs.Words.{word_fault}
use Rattle.cs_args.specs.declared.question.WordFault.{WordFault}
use Rattle.cs_civil.specs.Calendar.{Kind}
use Rattle.cs_windows.specs.Windows.{Job}
use Rattle.cs_chart.specs.Bars.{days_shown}
use Rattle.cs_chart.specs.Chart.{IsPictureOf, jobs_of_plan, jobs_of_tables}
use Rattle.cs_chart.specs.declared.answer.Drawable.{Drawable}
use Rattle.cs_chart.specs.declared.answer.Drawable.TheVariants as drawable
use Rattle.cs_chart.specs.declared.row.Terms.{Terms}
use Rattle.cs_io.specs.Files.{Failed}
use Rattle.cs_files.specs.Asked.{Answers, FindsTables, both_of}
use Rattle.cs_files.specs.Reads.{AndThen, Gives, ReadsDeclared}
use Rattle.cs_files.specs.Response.{Ending}
use Rattle.cs_files.specs.Trouble.{InWords, Trouble, ends}
use Rattle.cs_files.specs.declared.asked.Tables.{Tables}

-- the longest time and the catch-up hours in the words
abbrev pub terms_of : Question → Terms
terms_of q = record { max = q.max; from = q.from; to = q.to }

-- both tables are drawn, or the plan that declarations make of them
abbrev pub Draws : (List ℕ → Option (List ℕ)) → Option Text → Tables → Failed → Failed
    → Result Drawable Trouble → Type 0
Draws files None tables = Gives (Ok (drawable.Tables tables))
Draws files (Some path) tables = AndThen (ReadsDeclared files (both_of tables) path)
    (λ plan. Gives (Ok (drawable.Plan plan tables.places)))

abbrev pub FindsDrawable : AskedChart → (List ℕ → Option (List ℕ)) → List ℕ → Failed → Failed
    → Result Drawable Trouble → Type 0
FindsDrawable a files w =
    AndThen (FindsTables files a.day.table a.day.anacrontab w) (Draws files a.declarations)

abbrev pub jobs_of : Question → Drawable → List (Option (Job Kind))
jobs_of q (drawable.Tables tables) = jobs_of_tables (terms_of q) tables.crontab tables.jobs
jobs_of q (drawable.Plan plan places) = jobs_of_plan plan

-- a picture of these jobs is printed, of so many days from the given one on
abbrev pub IsDrawn : Question → ℕ → Drawable → Ending → Type 0
IsDrawn q days found ending = (ending.status ≡ 0) × (ending.err ≡ [])
    × IsPictureOf (days_shown q.day days) (jobs_of q found) ending.out

-- The first fault of DATE, MAX and the hours ends the call before a file is read; then the files
-- are read in turn.
abbrev pub AnswersChart : AskedChart → (List ℕ → Option (List ℕ)) → List ℕ → Failed → Failed → Ending
    → Type 0
AnswersChart a files w before after ending =
    ((fault : WordFault) × IsBadWord a.day (word_fault fault) × (w ≡ []) × (after ≡ before)
    × (ending ≡ ends [] (InWords fault)))
    ⊎ ((q : Question) × IsQuestion a.day q
    × Answers (FindsDrawable a files w) (IsDrawn q a.days) before after ending)
