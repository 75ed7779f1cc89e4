use Rattle.std.proofs.Common.{◌≤◌, length, subst}
use Rattle.cs_plan.specs.Plan.{Declared, crons}
use Rattle.cs_plan.proofs.Plans.{within}
use Rattle.cs_plan.proofs.plan.Plan.crons.Goals as goal

pub returns-clause-within : goal.returns-clause-within
returns-clause-within c = subst (λ (d : Declared). crons d ≤ length d.jobs) c.self.view_is (within _ c.self.invariant)
