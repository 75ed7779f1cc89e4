use Rattle.std.proofs.Common.{◌≡◌, Option, None, Some, true, is_some}
use Rattle.std.specs.Prelude.{IfSome}
use Rattle.cs_check.specs.declared.checked.Checked.{Checked}
use Rattle.cs_plan.specs.Plan.{Declared}
use Rattle.cs_judge.specs.Called.{IsCalledSafe}
use Rattle.cs_judge.specs.Judged.{IsJudgement}
use Rattle.cs_judge.specs.declared.judged.Judged.TheVariants.{Safe}

pub called : (plan : Declared) (checked : Checked) → IsJudgement plan (Safe checked) → IsCalledSafe plan
unfolding IsCalledSafe
called plan checked known = (checked, known)

pub called_if_found : (plan : Declared) (found : Option Checked) → IfSome found (λ checked. IsJudgement plan (Safe checked))
    → is_some found ≡ true → IsCalledSafe plan
called_if_found plan None known some = absurd (let no = some in cc)
called_if_found plan (Some checked) known some = called plan checked known
