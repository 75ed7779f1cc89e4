use Rattle.std.proofs.Common.{◌<◌, length, map, arith}
use Rattle.cs_classes.specs.Said.{said}
use Rattle.cs_classes.specs.Used.{seen}
use Rattle.cs_plan.specs.Plan.{as_plan}
use Rattle.cs_check.proofs.Clearing.{clears_is}
use Rattle.cs_check.proofs.Using.{long_as_kinds}
use Rattle.cs_check.proofs.reaches.clears_on.Goals as goal

pub returns : goal.returns
returns c =
    let k = said c.args.case.now.claim.now in
    let long = long_as_kinds k c.args.case.now.days c.args.used.now.kinds.items c.args.used.now.of.now c.requires.in_use.kinds in
    let some : 0 < length c.args.used.now.of.now = omega (arith, long, c.days-days.ensures.range, c.days-days.ensures.value) in
    clears_is (as_plan c.args.case.now.plan.now) c.requires.case.fit.plan k (seen c.args.used.now) c.args.number c.args.reach some c.clears.result (map (λ class. class.now) c.args.classes.now) c.requires.classes c.clears.ensures
