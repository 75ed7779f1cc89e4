use Rattle.std.proofs.Common.{map, take, arith}
use Rattle.cs_chart.specs.Chart.{IsPictureOf, shown_of}
use Rattle.cs_chart.proofs.Drawn.{before_text, next_row}
use Rattle.cs_chart.proofs.picture.rows_drawn.Goals as goal

pub loop-row-init : goal.loop-row-init
unfolding IsPictureOf
loop-row-init c = record { place = omega arith; rows = tt }

pub loop-row-preserved : goal.loop-row-preserved
loop-row-preserved c =
    let so = c.loop-row.invariant in
    let span = c.args.scene.now.span in
    let rows = c.args.scene.now.rows.now in
    let i = c.loop-row.row-index in
    record {
      place = omega (arith, so.place);
      rows = rw (c.in_ok-push_str-2.ensures.bytes, c.in_ok-push_str.ensures.bytes, c.as_str.ensures.value, c.as_str-in-loop-row.ensures.value)
          (next_row shown_of span rows i c.row-item.result _ _ c.loop-row-test.true c.row-item.is
          (before_text span (map shown_of (take i rows)) _ _ so.rows) c.in_ok-drawn.ensures);
    }
