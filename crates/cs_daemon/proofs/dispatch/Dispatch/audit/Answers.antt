use Rattle.cs_daemon.proofs.Resting.{same_left}
use Rattle.cs_daemon.proofs.dispatch.Dispatch.audit.Goals as goal

pub invariant_of-self-clause-left : goal.invariant_of-self-clause-left
invariant_of-self-clause-left g c =
    same_left c.args.self.now.rest c.args.self.now.keep c.audit.new.self c.args.self.now.left c.audit.ensures.keep
