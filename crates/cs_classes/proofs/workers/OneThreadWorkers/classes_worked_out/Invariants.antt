use Rattle.std.proofs.Common.{◌≡◌, map}
use Rattle.cs_claims.specs.Certificate.{content}
use Rattle.cs_classes.specs.StandsFor.{worked_of}
use Rattle.cs_history.specs.Lists.{below}
use Rattle.cs_classes.proofs.workers.OneThreadWorkers.classes_worked_out.Given as goal

abbrev pub invariant-loop-number : goal.invariant-loop-number
invariant-loop-number l = l.worked.items ≡ map (worked_of l.plan (content l.certificate)) (below l.number)
