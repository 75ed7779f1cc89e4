-- What is known of a plan.
use Rattle.std.specs.Prelude.{◌≡◌, true, Some, None, ⊤}
use Rattle.cs_history.specs.declared.script.Script.{Script}
use Rattle.cs_plan.specs.Plan.{Declared, as_plan}
use Rattle.cs_claims.specs.Content.{Content}
use Rattle.cs_check.specs.Case.{fault_of, reach_for}
use Rattle.cs_check.specs.Checked.{IsCalmThroughout, IsHeadline, certificate_in, plan_in}
use Rattle.cs_check.specs.declared.checked.Checked.{Checked}
use Rattle.cs_theorem.specs.Told.{told}
use Rattle.cs_theorem.specs.declared.check_fault.CheckFault.{CheckFault}
use Rattle.cs_report.specs.ScriptText.{is_nameable}
use Rattle.cs_counterexample.specs.Shown.{IsShown, IsTellable}
use Rattle.cs_counterexample.specs.declared.shown.Shown.{Shown}
use Rattle.cs_judge.specs.declared.judged.Judged.{Judged}
use Rattle.cs_judge.specs.declared.judged.Judged.TheVariants.{Safe, Unsafe, Unknown}

-- what holds of the checked plan, if the answer is safe
abbrev pub IfSafe : Judged → (Checked → Type 0) → Type 0
IfSafe (Safe checked) P = P checked
IfSafe (Unsafe script shown breach) P = ⊤
IfSafe (Unknown reason refusal) P = ⊤

-- of the script and what it breaks first, if it is unsafe
abbrev pub IfUnsafe : Judged → (Script → Shown → Type 0) → Type 0
IfUnsafe (Safe checked) P = ⊤
IfUnsafe (Unsafe script shown breach) P = P script shown
IfUnsafe (Unknown reason refusal) P = ⊤

-- of the refusal, if the plan is unknown and there is one
abbrev pub IfRefused : Judged → (CheckFault → Type 0) → Type 0
IfRefused (Safe checked) P = ⊤
IfRefused (Unsafe script shown breach) P = ⊤
IfRefused (Unknown reason None) P = ⊤
IfRefused (Unknown reason (Some fault)) P = P fault

-- the checker has accepted this plan
pub record IsCheckedFor (plan : Declared) (checked : Checked) : Type 0 where
  pub same : plan_in checked ≡ plan
  pub accepted : fault_of plan (certificate_in checked) ≡ None

-- each minute from 1970-01-04 on is calm
abbrev pub IsCalmBy : Declared → Checked → Type 0
IsCalmBy plan checked =
    IsCalmThroughout (as_plan plan) (reach_for plan (certificate_in checked))

-- the script can be written, and shows the plan unsafe: each of its events may come when it comes,
-- each run ends within its declared time, and this, which has a text, is broken first
pub record Shows (plan : Declared) (script : Script) (shown : Shown) : Type 0 where
  pub nameable : is_nameable plan script ≡ true
  pub breaks : IsShown (as_plan plan) script shown
  pub tellable : IsTellable (as_plan plan) shown

abbrev pub IsCompact : Content → Type 0
IsCompact c = c.version ≡ 3

-- the checker refuses a compact certificate of the plan so
abbrev pub IsRefusal : Declared → CheckFault → Type 0
IsRefusal plan fault = (c : Content) × IsCompact c × (fault_of plan c ≡ Some (told fault))

-- what is known of a plan is true: if it is called safe, the checker has accepted it, every legal
-- history in time is safe, and each minute is calm; if it is called unsafe, the script shows that;
-- and a refusal is the checker's, of a compact certificate
pub record IsJudgement (plan : Declared) (judged : Judged) : Type 0 where
  pub safe : IfSafe judged (IsCheckedFor plan)
  pub headline : IfSafe judged (λ checked. IsHeadline (as_plan plan))
  pub calm : IfSafe judged (IsCalmBy plan)
  pub shown : IfUnsafe judged (Shows plan)
  pub refused : IfRefused judged (IsRefusal plan)
