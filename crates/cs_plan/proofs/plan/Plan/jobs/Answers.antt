use Rattle.std.proofs.Common.{◌≤◌, length, subst}
use Rattle.cs_history.specs.Plan.{IsPlan}
use Rattle.cs_plan.specs.Plan.{Declared, as_plan}
use Rattle.cs_plan.proofs.Plans.{resolved, few}
use Rattle.cs_plan.proofs.plan.Plan.jobs.Goals as goal

pub returns-clause-resolved : goal.returns-clause-resolved
returns-clause-resolved c = subst (λ (d : Declared). IsPlan (as_plan d)) c.self.view_is (resolved _ c.self.invariant)

pub returns-clause-few : goal.returns-clause-few
returns-clause-few c = subst (λ (d : Declared). length d.jobs ≤ 320) c.self.view_is (few _ c.self.invariant)
