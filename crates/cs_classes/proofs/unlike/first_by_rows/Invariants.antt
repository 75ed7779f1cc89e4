use Rattle.std.proofs.Common.{◌≡◌}
use Rattle.cs_civil.specs.Order.{all_kinds}
use Rattle.cs_theorem.specs.Faults.{first_of}
use Rattle.cs_classes.specs.Said.{said}
use Rattle.cs_classes.proofs.Alike.{unlike}
use Rattle.cs_classes.proofs.unlike.first_by_rows.Given as goal

abbrev pub invariant-loop-kind : goal.invariant-loop-kind
invariant-loop-kind l = first_of (unlike l.plan (said l.claim)) l.kind-iterator ≡ first_of (unlike l.plan (said l.claim)) all_kinds
