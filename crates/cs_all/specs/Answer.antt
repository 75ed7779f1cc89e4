-- The answers to `judge --all` and `lint --all`.
use Rattle.std.specs.Prelude.{◌≡◌, ◌≤◌, ◌⊎◌, ℕ, List, [], All, Contains, IfSome, IsErr, Ok, None, Some, option_map}
use Rattle.std.specs.List.{AllZip}
use Rattle.cs_cert.specs.Denoted.{certificate_by}
use Rattle.cs_check.specs.Case.{fault_of}
use Rattle.cs_claims.specs.Content.{Content as Claims}
use Rattle.cs_cli.specs.Judge.{outcome_status}
use Rattle.cs_files.specs.Response.{Ending, status_of}
use Rattle.cs_files.specs.Trouble.{trouble, trouble_status}
use Rattle.cs_files.specs.declared.response.Status.{Status}
use Rattle.cs_files.specs.declared.response.Status.TheVariants as status
use Rattle.cs_judge.specs.Answer.{outcome_of}
use Rattle.cs_judge.specs.Judged.{IsJudgement}
use Rattle.cs_judge.specs.declared.judged.Judged.{Judged}
use Rattle.cs_lint.specs.Refused.{Judges}
use Rattle.cs_plan.specs.Plan.{Declared}
use Rattle.cs_theorem.specs.Faults.{Fault}
use Rattle.cs_all.specs.declared.reading.Content.{Content}
use Rattle.cs_all.specs.declared.reading.Content.TheVariants.{Plan, Claim, Lines, Undeclared, Stray, Bare}
use Rattle.cs_all.specs.declared.reading.Content.TheVariants.{Fault as Faulty}

-- the status of `judge` for the plan alone
abbrev pub IsJudgedAs : Declared → ℕ → Type 0
IsJudgedAs plan n =
    (judged : Judged) × IsJudgement plan judged × (n ≡ outcome_status (outcome_of judged))

-- 0 where the checker accepts the certificate for the plan, 1 where it refuses it
abbrev pub IsRuled : Declared → Claims → ℕ → Type 0
IsRuled plan c n = ((fault_of plan c ≡ None) × (n ≡ 0))
    ⊎ ((fault : Fault) × (fault_of plan c ≡ Some fault) × (n ≡ 1))

-- the same of its text, or 3 where that holds a fault
abbrev pub IsRuledAs : Declared → List ℕ → ℕ → Type 0
IsRuledAs plan text n = (IsErr (certificate_by text) × (n ≡ 3))
    ⊎ ((c : Claims) × (certificate_by text ≡ Ok c) × IsRuled plan c n)

-- the status of what was read at a path: that of its own judgement, check, lint or fault
abbrev pub IsTold : Content → Status → Type 0
IsTold (Plan planned) s = IsJudgedAs planned.plan (status_of s)
IsTold (Claim planned text) s = IsRuledAs planned.plan text.items (status_of s)
IsTold (Lines texts) s = Judges (status_of s) texts.table.items
    (option_map (λ v. v.items) texts.jobs) (option_map (λ v. v.items) texts.declarations)
IsTold (Faulty fault) s = IfSome (trouble fault) (λ t. status_of s ≡ trouble_status t)
IsTold Undeclared s = s ≡ status.BadInput
IsTold Stray s = s ≡ status.Done
IsTold Bare s = s ≡ status.BadInput

-- 6, 5, 4, 3, 1, 2 and 0 are ever less severe
abbrev pub severity : Status → ℕ
severity status.Done = 0
severity status.Unknown = 1
severity status.Refused = 2
severity status.BadInput = 3
severity status.NoCall = 4
severity status.NoMemory = 5
severity status.DeviceFailed = 6

-- one of them, and none is more severe; 0 of none
pub record IsMostSevere (statuses : List Status) (most : Status) : Type 0 where
  pub one : (most ≡ status.Done) ⊎ Contains statuses most
  pub none_above : All (λ s. severity s ≤ severity most) statuses

-- the status is the most severe of these
abbrev pub IsWorst : List Status → Ending → Type 0
IsWorst statuses ending =
    (most : Status) × IsMostSevere statuses most × (ending.status ≡ status_of most)

-- the status is the most severe of those of what was read at each path
pub record TellsAll (ending : Ending) : Type 0 where
  pub contents : List Content
  pub statuses : List Status
  pub each : AllZip IsTold contents statuses
  pub worst : IsWorst statuses ending

-- the words are refused, or all is told of
abbrev pub AnswersAll : Ending → Type 0
AnswersAll ending = ((ending.status ≡ 4) × (ending.out ≡ [])) ⊎ TellsAll ending
