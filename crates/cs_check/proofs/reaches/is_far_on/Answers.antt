use Rattle.std.proofs.Common.{◌<◌, length, arith, sym}
use Rattle.cs_classes.specs.Said.{said}
use Rattle.cs_classes.specs.Used.{seen}
use Rattle.cs_plan.specs.Plan.{as_plan}
use Rattle.cs_check.proofs.Clearing.{clears_alone}
use Rattle.cs_check.proofs.Using.{long_as_kinds}
use Rattle.cs_check.proofs.reaches.is_far_on.Goals as goal

pub returns-then-day_on : goal.returns-then-day_on
returns-then-day_on c =
    let k = said c.args.case.now.claim.now in
    let long = long_as_kinds k c.args.case.now.days c.args.used.now.kinds.items c.args.used.now.of.now c.requires.in_use.kinds in
    let some : 0 < length c.args.used.now.of.now = omega (arith, long, c.days-days.ensures.range, c.days-days.ensures.value) in
    sym (clears_alone (as_plan c.args.case.now.plan.now) c.requires.case.fit.plan k (seen c.args.used.now) c.args.number c.args.reach some (c.day_on.ensures.settles c.if-day_on.true c.args.number c.requires.cron c.requires.waits c.args.reach c.requires.reach))
