use Rattle.std.proofs.Common.{◌<◌, length, below_more, arith}
use Rattle.cs_classes.specs.Said.{said}
use Rattle.cs_classes.specs.Claim.{as_certificate}
use Rattle.cs_classes.specs.Used.{seen}
use Rattle.cs_plan.specs.Plan.{as_plan}
use Rattle.cs_check.specs.Stretches.{ReachHolds}
use Rattle.cs_check.proofs.Clearing.{clears_alone}
use Rattle.cs_check.proofs.Using.{long_as_kinds}
use Rattle.cs_check.proofs.reaches.holds.Goals as goal

pub returns-then-day_on : goal.returns-then-day_on
returns-then-day_on c =
    let k = said c.args.case.now.claim.now in
    let long = long_as_kinds k c.args.case.now.days c.args.used.now.kinds.items c.args.used.now.of.now c.requires.in_use.kinds in
    let some : 0 < length c.args.used.now.of.now = omega (arith, long, c.days-days.ensures.range, c.days-days.ensures.value) in
    λ _ j lt r waits reach. clears_alone (as_plan c.args.case.now.plan.now) c.requires.case.fit.plan k (seen c.args.used.now) j r some (c.day_on.ensures.settles c.if-day_on.true j lt waits r reach)

pub loop-number-preserved : goal.loop-number-preserved
loop-number-preserved c =
    below_more (ReachHolds (as_plan c.args.case.now.plan.now) (as_certificate (said c.args.case.now.claim.now)) (seen c.args.used.now))
    c.loop-number.number c.loop-number.invariant (c.reach_holds.ensures c.if-not-reach_holds.false)
