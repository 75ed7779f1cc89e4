use Rattle.std.proofs.Common.{◌∙◌}
use Rattle.cs_keep.specs.Closed.{keeping_in}
use Rattle.cs_daemon.proofs.Resting.{same_left}
use Rattle.cs_daemon.proofs.closing.Left.close.Goals as goal

pub returns-clause-rest : goal.returns-clause-rest
returns-clause-rest g c =
    same_left c.args.self.rest c.args.self.keep (keeping_in c.close-kept.result) c.args.self.left (c.close-kept.ensures.keeping ∙ c.audit.ensures.keep)
