use Rattle.std.proofs.Common.{max, arith, slice_index}
use Rattle.cs_overlap.proofs.Weights.{total_below}
use Rattle.cs_overlap.proofs.load.group_load.Goals as goal

pub loop-group-preserved : goal.loop-group-preserved
loop-group-preserved c =
    let t = total_below (λ g. max (slice_index c.args.alone.now g) (slice_index c.args.shared.now g)) c.loop-group.group in
    (omega (arith, t, c.loop-group.invariant.0, c.max-sum.ensures, c.from.ensures), omega (arith, c.loop-group.invariant.1, c.requires.small c.loop-group.group (omega (arith, c.requires.few, c.loop-group-test.true)), c.max-sum.ensures, c.from.ensures))
