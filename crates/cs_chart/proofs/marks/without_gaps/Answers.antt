use Rattle.cs_chart.specs.Bars.{is_covered}
use Rattle.cs_chart.proofs.Joined.{drawn_next, none_next, own_bar}
use Rattle.cs_chart.proofs.marks.without_gaps.Goals as goal
use Rattle.cs_chart.proofs.marks.without_gaps.Goals.{then-bar+in_ok-push, else-bar}

pub loop-bar-preserved : goal.loop-bar-preserved
loop-bar-preserved c = elim c.if-bar.branch [
  | then-bar+in_ok-push w ↦ rw w.drawn-is (record {
    whole = λ minute. drawn_next c.args.bars.now c.loop-bar.bar-index _ c.loop-bar.drawn.bars.items w.push.new.self.bars.items minute c.loop-bar-test.true
        (w.in_ok-push.ensures.whole minute) (c.loop-bar.invariant.whole minute);
    each = w.in_ok-push.ensures.each (is_covered c.args.bars.now) c.loop-bar.invariant.each
        (own_bar c.args.bars.now c.args.gap c.loop-bar.bar-index _ c.loop-bar-test.true w.if-bar.true);
  })
  | else-bar w ↦ rw w.drawn-is (record {
    whole = λ minute. none_next c.args.bars.now c.loop-bar.bar-index _ c.loop-bar.drawn.bars.items minute c.loop-bar-test.true w.if-bar.false
        (c.loop-bar.invariant.whole minute);
    each = c.loop-bar.invariant.each;
  })
]
