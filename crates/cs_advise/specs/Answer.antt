-- The answers to `room` and to `advise`.
use Rattle.std.specs.Prelude.{◌≡◌, ◌≢◌, ◌⊎◌, ◌≤◌, ℕ, List, [], ◌++◌, ◌∷◌, codes, flat_map}
use Rattle.std.specs.Prelude.{IfSome, Option, length}
use Rattle.std.specs.List.{AllZip, concat}
use Rattle.cs_args.specs.Asked.{AskedAdvise, AskedJudge}
use Rattle.cs_counterexample.specs.ShownText.{shown_text}
use Rattle.cs_counterexample.specs.declared.shown.Shown.{Shown}
use Rattle.cs_plan.specs.Plan.{Declared}
use Rattle.cs_files.specs.Asked.{Answers, FindsPlan}
use Rattle.cs_files.specs.Response.{Ending}
use Rattle.cs_files.specs.declared.asked.Planned.{Planned}
use Rattle.cs_io.specs.Files.{Failed}
use Rattle.cs_judge.specs.Answer.{IsUnknown, unknown_outcome}
use Rattle.cs_judge.specs.Judged.{IsJudgement}
use Rattle.cs_verdict.specs.Story.{comment}
use Rattle.cs_judge.specs.declared.answers.Outcome.{Outcome}
use Rattle.cs_judge.specs.declared.answers.Outcome.TheVariants as outcome
use Rattle.cs_judge.specs.declared.judged.Judged.{Judged}
use Rattle.cs_judge.specs.declared.judged.Judged.TheVariants.{Safe, Unknown, Unsafe}
use Rattle.cs_report.specs.Warning.{plan_notes}
use Rattle.cs_advise.specs.Advice.{IsAdvice}
use Rattle.cs_advise.specs.Room.{AreRooms, IsRoomLine}
use Rattle.cs_advise.specs.declared.answers.Question.{Question}
use Rattle.cs_advise.specs.declared.answers.Question.TheVariants.{Advice, Rooms}
use Rattle.cs_advise.specs.declared.change.Change.{Change}
use Rattle.cs_advise.specs.declared.room.Room.{Room}
use Rattle.cs_advise.specs.declared.source.Source.{Source}

-- a line for the room of each job, after a head
pub record TellsRooms (plan : Declared) (head out : List ℕ) : Type 0 where
  pub rooms : List Room
  pub each : AreRooms plan rooms
  pub lines : List (List ℕ)
  pub told : AllZip (IsRoomLine plan) rooms lines
  pub text : out ≡ head ++ concat lines

-- the line of the first breach; `advise` may add comments
abbrev pub IsBrokenText : Question → Declared → Shown → List ℕ → Type 0
IsBrokenText Rooms plan shown text = text ≡ shown_text plan shown ++ 10 ∷ []
IsBrokenText (Advice within first) plan shown text = (story : List (List ℕ))
    × (text ≡ (shown_text plan shown ++ 10 ∷ []) ++ flat_map comment story)

-- status 0, and a line for each change that makes the plan safe; at most `first` of them, if given
abbrev pub TellsAdvice : Option ℕ → Source → Declared → ℕ → List ℕ → Type 0
TellsAdvice first source plan status out =
    (changes : List Change) × (status ≡ 0) × (changes ≢ [])
    × IfSome first (λ n. length changes ≤ n) × IsAdvice source plan changes out

-- before the rooms of a safe plan
abbrev pub head_of : Question → List ℕ
head_of Rooms = []
head_of (Advice within first) = codes "safe\n"

-- An unsafe plan gets advice, if it is asked for and a change is found, or the first breach with
-- status 1.
abbrev pub IsTold : Question → Source → Declared → Shown → ℕ → List ℕ → Type 0
IsTold question source plan shown status out =
    ((within : ℕ) × (first : Option ℕ) × (question ≡ Advice within first)
    × TellsAdvice first source plan status out)
    ⊎ ((status ≡ 1) × IsBrokenText question plan shown out)

-- the status of an unknown judgement: 5 where memory ran out
abbrev pub unknown_status : Outcome → ℕ
unknown_status outcome.NoMemory = 5
unknown_status outcome.Safe = 2
unknown_status outcome.Unsafe = 2
unknown_status outcome.Unknown = 2

-- A safe plan gets the rooms of its jobs, an unsafe one advice or the first breach, and an unknown
-- one what `judge` prints.
abbrev pub IsPrinted : Question → Source → Declared → Judged → ℕ → List ℕ → Type 0
IsPrinted question source plan (Safe checked) status out =
    (status ≡ 0) × TellsRooms plan (head_of question) out
IsPrinted question source plan (Unsafe script shown breach) status out =
    IsTold question source plan shown status out
IsPrinted question source plan (Unknown reason refusal) status out =
    (status ≡ unknown_status (unknown_outcome reason)) × IsUnknown plan reason refusal out

-- the notes on the plan come first on standard error; notes on the places of lines may follow
pub record IsAdvised (question : Question) (source : Source) (plan : Declared) (ending : Ending)
    : Type 0 where
  pub judged : Judged
  pub known : IsJudgement plan judged
  pub printed : IsPrinted question source plan judged ending.status ending.out
  pub notes : List ℕ
  pub err : ending.err ≡ plan_notes plan ++ notes

-- the texts from which the plan was read
abbrev pub source_of : Planned → Source
source_of planned = record { table = planned.table; declarations = planned.declarations }

abbrev pub IsAdvisedOf : Question → Planned → Ending → Type 0
IsAdvisedOf question planned = IsAdvised question (source_of planned) planned.plan

-- the answer on the plan that the files make, or the first fault of a file; files are read in turn
abbrev pub AnswersQuestion : Question → AskedJudge → (List ℕ → Option (List ℕ)) → List ℕ → Failed
    → Failed → Ending → Type 0
AnswersQuestion question a files w =
    Answers (FindsPlan files a.table a.anacrontab a.declarations w) (IsAdvisedOf question)

abbrev pub AnswersRoom : AskedJudge → (List ℕ → Option (List ℕ)) → List ℕ → Failed → Failed → Ending
    → Type 0
AnswersRoom = AnswersQuestion Rooms

-- `advise` prints at most `first` changes, if given
abbrev pub AnswersAdvise : AskedAdvise → (List ℕ → Option (List ℕ)) → List ℕ → Failed → Failed
    → Ending → Type 0
AnswersAdvise a = AnswersQuestion (Advice a.within a.first) a.judge
