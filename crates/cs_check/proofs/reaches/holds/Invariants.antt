use Rattle.std.proofs.Common.{ℕ, ◌<◌}
use Rattle.cs_classes.specs.Said.{said}
use Rattle.cs_classes.specs.Claim.{as_certificate}
use Rattle.cs_classes.specs.Used.{seen}
use Rattle.cs_plan.specs.Plan.{as_plan}
use Rattle.cs_check.specs.Stretches.{ReachHolds}
use Rattle.cs_check.proofs.reaches.holds.Given as goal

abbrev pub invariant-loop-number : goal.invariant-loop-number
invariant-loop-number l = (j : ℕ) → j < l.number → ReachHolds (as_plan l.case.plan.now) (as_certificate (said l.case.claim.now)) (seen l.used) j
