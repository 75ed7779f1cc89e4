use Rattle.std.proofs.Common.{ℕ, ◌<◌}
use Rattle.cs_machine.proofs.Shapes.{FitsAt}
use Rattle.cs_machine.proofs.output.is_moment.Given as goal

abbrev pub invariant-loop-at : goal.invariant-loop-at
invariant-loop-at l = (k : ℕ) → k < l.at → FitsAt l.text k
