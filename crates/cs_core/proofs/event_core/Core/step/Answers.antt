use Rattle.cs_plan.specs.Plan.{as_plan}
use Rattle.cs_history.proofs.Steps.{follows}
use Rattle.cs_core.proofs.event_core.Core.step.Goals as goal

pub returns-clause-history : goal.returns-clause-history
returns-clause-history c h is = follows (as_plan c.args.self.now.plan) h c.args.event c.take_unless_refused.result c.args.self.now.state c.take_unless_refused.new.self.state is c.take_unless_refused.ensures.steps
