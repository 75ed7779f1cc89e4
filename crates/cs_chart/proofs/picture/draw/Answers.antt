use Rattle.std.proofs.Common.{map}
use Rattle.cs_chart.specs.Chart.{shown_of}
use Rattle.cs_chart.proofs.Drawn.{before_text, behind_text}
use Rattle.cs_chart.proofs.picture.draw.Goals as goal

pub returns : goal.returns
returns c =
    let span = c.args.scene.now.span in
    let jobs = map shown_of c.args.scene.now.rows.now in
    rw (c.in_ok-push_str-3.ensures.bytes, c.in_ok-push_str-2.ensures.bytes, c.as_str-2.ensures.value)
    (before_text span jobs _ _ (behind_text span jobs _ _ c.in_ok-rows.ensures))
