use Rattle.cs_theorem.proofs.Nightly.{nightly_plan}
use Rattle.cs_theorem.proofs.Example.{by_kind, nightly_length, nightly_accepted}
use Rattle.cs_theorem.proofs.accepted_plans.some_are_accepted.Goals as goal

pub returns-clause-plan : goal.returns-clause-plan
returns-clause-plan c = nightly_plan

pub returns-clause-kinds : goal.returns-clause-kinds
returns-clause-kinds c = by_kind

pub returns-clause-length : goal.returns-clause-length
returns-clause-length c = nightly_length

pub returns-clause-accepted : goal.returns-clause-accepted
returns-clause-accepted c = nightly_accepted
