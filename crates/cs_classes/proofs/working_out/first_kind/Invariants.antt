use Rattle.std.proofs.Common.{◌≡◌, drop}
use Rattle.cs_classes.specs.WorkedOut.{first_classed}
use Rattle.cs_classes.proofs.working_out.first_kind.Given as goal

abbrev pub invariant-loop-classed : goal.invariant-loop-classed
invariant-loop-classed l = first_classed (drop l.classed-index l.kinds) l.class ≡ first_classed l.kinds l.class
