use Rattle.std.proofs.Common.{below_more}
use Rattle.cs_classes.specs.Said.{said}
use Rattle.cs_check.specs.ClassDays.{Settles}
use Rattle.cs_check.proofs.reaches.all_settle.Goals as goal

pub loop-number-preserved : goal.loop-number-preserved
loop-number-preserved c = below_more (Settles c.args.basis.now.plan.now (said c.args.basis.now.claim.now) c.args.class.now) c.loop-number.number c.loop-number.invariant (c.settles.ensures c.if-not-settles.false)
