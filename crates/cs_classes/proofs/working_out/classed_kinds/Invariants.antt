use Rattle.std.proofs.Common.{◌≡◌, ◌++◌, map}
use Rattle.cs_claims.specs.Certificate.{content}
use Rattle.cs_civil.specs.Order.{all_kinds}
use Rattle.cs_classes.specs.WorkedOut.{classed_kind}
use Rattle.cs_classes.proofs.working_out.classed_kinds.Given as goal

abbrev pub invariant-loop-kind : goal.invariant-loop-kind
invariant-loop-kind l = l.kinds.items ++ map (classed_kind (content l.certificate)) l.kind-iterator ≡ map (classed_kind (content l.certificate)) all_kinds
