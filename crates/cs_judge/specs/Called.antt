use Rattle.std.specs.Prelude.{ℕ}
use Rattle.cs_check.specs.Case.{reach_for}
use Rattle.cs_check.specs.Checked.{certificate_in, plan_in}
use Rattle.cs_check.specs.declared.checked.Checked.{Checked}
use Rattle.cs_plan.specs.Plan.{Declared}
use Rattle.cs_judge.specs.Judged.{IsJudgement}
use Rattle.cs_judge.specs.declared.judged.Judged.TheVariants.{Safe}

-- the plan was judged safe: the checker has accepted it, every legal history in time is safe, and
-- each minute is calm
unfoldable pub IsCalledSafe : Declared → Type 0
IsCalledSafe plan = (checked : Checked) × IsJudgement plan (Safe checked)

-- the reach of each job by the certificate with which a plan was accepted
abbrev pub reach_in : Checked → ℕ → ℕ
reach_in checked = reach_for (plan_in checked) (certificate_in checked)
