use Rattle.std.proofs.Common.{arith, slice_index}
use Rattle.cs_windows.proofs.Linked.{bit_step, block_end}
use Rattle.cs_windows.proofs.links.link_block.Goals as goal

pub returns-then-next-ge32 : goal.returns-then-next-ge32
returns-then-next-ge32 c begins minute ws each before =
    let i = c.loop-place.invariant in
    block_end c.args.starts c.loop-place.place c.args.first c.loop-place.links.items (slice_index c.loop-place.firsts minute) c.ranges.starts.fits i.0 c.if-next-ge32.true begins minute ws each (i.1 begins minute ws each before)

pub loop-place-preserved : goal.loop-place-preserved
loop-place-preserved c =
    let i = c.loop-place.invariant in
    let low = c.if-next-ge32.false in (
      omega (arith, low),
      λ begins minute ws each before. bit_step c.args.starts c.loop-place.place c.args.first c.loop-place.links.items c.put_first.new.links.items c.loop-place.firsts c.put_first.new.firsts c.ranges.starts.fits low c.in_ok-put_first.ensures begins minute ws each (i.1 begins minute ws each before),
    )
