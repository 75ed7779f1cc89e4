use Rattle.std.proofs.Common.{ℕ, ◌<◌}
use Rattle.cs_classes.specs.Said.{said}
use Rattle.cs_check.specs.ClassDays.{Settles}
use Rattle.cs_check.proofs.reaches.all_settle.Given as goal

abbrev pub invariant-loop-number : goal.invariant-loop-number
invariant-loop-number l = (j : ℕ) → j < l.number → Settles l.basis.plan.now (said l.basis.claim.now) l.class j
