use Rattle.std.proofs.Common.{◌≡◌, ℕ, true, take}
use Rattle.std.specs.Prelude.{All}
use Rattle.cs_chart.specs.Bars.{IsBarOf, is_covered}
use Rattle.cs_chart.proofs.marks.without_gaps.Given as goal

-- each minute of the bars so far is in one that is drawn
pub record SoFar (l : goal.Live-loop-bar) : Type 0 where
  pub whole : (minute : ℕ) → is_covered (take l.bar-index l.bars) minute ≡ true → is_covered l.drawn.bars.items minute ≡ true
  pub each : All (IsBarOf (is_covered l.bars) l.gap) l.drawn.bars.items

abbrev pub invariant-loop-bar : goal.invariant-loop-bar
invariant-loop-bar l = SoFar l
