use Rattle.cs_theorem.proofs.Nightly.{nightly_plan, nightly_bounded, nightly_calm}
use Rattle.cs_theorem.proofs.calm_plans.premises_can_be_met.Goals as goal

pub returns-clause-plan : goal.returns-clause-plan
returns-clause-plan c = nightly_plan

pub returns-clause-bounded : goal.returns-clause-bounded
returns-clause-bounded c = nightly_bounded

pub returns-clause-calm : goal.returns-clause-calm
returns-clause-calm c t r = nightly_calm t r
