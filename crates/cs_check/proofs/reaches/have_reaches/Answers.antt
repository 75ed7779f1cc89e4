use Rattle.std.proofs.Common.{◌≡◌, ℕ, true, Some, below_more}
use Rattle.cs_classes.specs.Said.{said}
use Rattle.cs_classes.specs.Claim.{as_certificate}
use Rattle.cs_plan.specs.Plan.{as_plan}
use Rattle.cs_history.specs.Plan.{waits}
use Rattle.cs_check.proofs.reaches.have_reaches.Goals as goal

pub loop-number-preserved : goal.loop-number-preserved
loop-number-preserved c =
    below_more (λ j. waits (as_plan c.args.case.now.plan.now) j ≡ true → (r : ℕ) × ((as_certificate (said c.args.case.now.claim.now)).reach j ≡ Some r))
    c.loop-number.number c.loop-number.invariant (c.has_reach.ensures c.if-not-has_reach.false)
