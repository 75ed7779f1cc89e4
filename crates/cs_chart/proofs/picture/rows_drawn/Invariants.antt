use Rattle.std.proofs.Common.{◌≡◌, take, map, string_bytes}
use Rattle.cs_chart.specs.Chart.{IsPictureOf, shown_of}
use Rattle.cs_chart.proofs.picture.rows_drawn.Given as goal

pub record SoFar (l : goal.Live-loop-row) : Type 0 where
  pub place : l.place ≡ l.row-index
  pub rows : IsPictureOf l.scene.span (map shown_of (take l.row-index l.scene.rows.now)) (string_bytes l.text)

abbrev pub invariant-loop-row : goal.invariant-loop-row
invariant-loop-row l = SoFar l
