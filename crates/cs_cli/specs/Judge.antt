-- The answers to `judge` and to `make`: how the tables stand as they are declared.
use Rattle.std.specs.Prelude.{◌≡◌, ℕ, Bool, true, false, List, [], ◌∷◌, ◌++◌, Option, Some, None, codes, string_bytes}
use Rattle.cs_plan.specs.Plan.{Declared}
use Rattle.cs_judge.specs.Answer.{IsAnswer}
use Rattle.cs_judge.specs.Judged.{IsJudgement}
use Rattle.cs_judge.specs.declared.judged.Judged.{Judged}
use Rattle.cs_judge.specs.declared.judged.Judged.TheVariants.{Safe, Unknown, Unsafe}
use Rattle.cs_judge.specs.declared.answers.Outcome.{Outcome}
use Rattle.cs_judge.specs.declared.answers.Outcome.TheVariants as outcome
use Rattle.cs_judge.specs.declared.answers.Wanted.{Wanted}
use Rattle.cs_judge.specs.declared.answers.Wanted.TheVariants.{Certificate, Compact, Verdict}
use Rattle.cs_counterexample.specs.declared.shown.Shown.{Shown}
use Rattle.cs_counterexample.specs.declared.shown.Shown.TheVariants.{Load, Skipped, Together}
use Rattle.cs_diagnostics.specs.declared.told.Level.{Level}
use Rattle.cs_diagnostics.specs.declared.told.Level.TheVariants.{Error, Warning}
use Rattle.cs_findings.specs.declared.finding.Finding.{Finding}
use Rattle.cs_maker.specs.Reason.{reason_name}
use Rattle.cs_theorem.specs.Told.{told}
use Rattle.cs_report.specs.Warning.{plan_notes}
use Rattle.cs_args.specs.Asked.{AskedJudge, AskedMake}
use Rattle.cs_io.specs.Files.{Failed}
use Rattle.cs_files.specs.Response.{Ending}
use Rattle.cs_files.specs.Asked.{Answers, FindsPlan}
use Rattle.cs_place.specs.declared.places.Place.{Place}
use Rattle.cs_ruling.specs.Check.{fault_places}

abbrev pub outcome_status : Outcome → ℕ
outcome_status outcome.Safe = 0
outcome_status outcome.Unsafe = 1
outcome_status outcome.Unknown = 2
outcome_status outcome.NoMemory = 5

-- the notes on a refusal after `unknown`: the places of the lines that it names, and perhaps notes
-- on the jobs that take a lock
abbrev pub AreRefusalNotes : Declared → List Place → Judged → List ℕ → Type 0
AreRefusalNotes plan places (Safe checked) notes = notes ≡ []
AreRefusalNotes plan places (Unsafe script shown breach) notes = notes ≡ []
AreRefusalNotes plan places (Unknown reason None) notes = notes ≡ []
AreRefusalNotes plan places (Unknown reason (Some fault)) notes =
    (more : List ℕ) × (notes ≡ fault_places plan places (told fault) ++ more)

-- the checker's name of what a history breaks
abbrev pub shown_rule : Shown → List ℕ
shown_rule (Together one other) = codes "Collision"
shown_rule (Load weight) = codes "OverCapacity"
shown_rule (Skipped job at) = codes "SkipBlocked"

-- a finding of that level names that rule
abbrev pub IsFound : Level → List ℕ → Finding → Type 0
IsFound level rule finding = (finding.level ≡ level) × (string_bytes finding.rule ≡ rule)

-- nothing is found of a safe plan; of an unsafe one an error, of what its history breaks; else a
-- warning, of the reason
abbrev pub AreFindings : Judged → List Finding → Type 0
AreFindings (Safe checked) findings = findings ≡ []
AreFindings (Unsafe script shown breach) findings =
    (f : Finding) × IsFound Error (shown_rule shown) f × (findings ≡ f ∷ [])
AreFindings (Unknown reason refusal) findings =
    (f : Finding) × IsFound Warning (reason_name reason) f × (findings ≡ f ∷ [])

-- what is known of a plan is printed, with the notes on it, and the status is by how it was found
pub record IsJudged (wanted : Wanted) (plan : Declared) (places : List Place) (ending : Ending)
    : Type 0 where
  pub judged : Judged
  pub known : IsJudgement plan judged
  pub found : Outcome
  pub printed : IsAnswer wanted plan places judged found ending.out
  pub status : ending.status ≡ outcome_status found
  pub notes : List ℕ
  pub refused : AreRefusalNotes plan places judged notes
  pub err : ending.err ≡ plan_notes plan ++ notes

-- the answer where this is wanted: how the plan was found, or the first fault of a file, and no
-- file is read before its own turn
abbrev pub AnswersWanted : Wanted → AskedJudge → (List ℕ → Option (List ℕ)) → List ℕ → Failed → Failed
    → Ending → Type 0
AnswersWanted wanted a files w = Answers (FindsPlan files a.table a.anacrontab a.declarations w)
    (λ planned. IsJudged wanted planned.plan planned.places)

-- `judge` prints a verdict
abbrev pub AnswersJudge : AskedJudge → (List ℕ → Option (List ℕ)) → List ℕ → Failed → Failed
    → Ending → Type 0
AnswersJudge = AnswersWanted Verdict

-- `make` prints the certificate of a plan that is safe, with `--compact` a compact one
abbrev pub wanted_of : Bool → Wanted
wanted_of true = Compact
wanted_of false = Certificate

abbrev pub AnswersMake : AskedMake → (List ℕ → Option (List ℕ)) → List ℕ → Failed → Failed → Ending
    → Type 0
AnswersMake a = AnswersWanted (wanted_of a.compact) a.judge
