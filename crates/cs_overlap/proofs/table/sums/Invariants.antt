use Rattle.std.proofs.Common.{◌≡◌, ◌*◌, take, length}
use Rattle.cs_overlap.specs.Sums.{AreAtMost, IsTally, amount_in}
use Rattle.cs_overlap.proofs.table.sums.Given as goal

abbrev pub invariant-loop-window : goal.invariant-loop-window
invariant-loop-window l = record {
  begun_long : length l.begun ≡ 1441;
  ended_long : length l.ended ≡ 1441;
  begun_small : AreAtMost (255 * l.window-index) l.begun;
  ended_small : AreAtMost (255 * l.window-index) l.ended;
  tally : IsTally (amount_in l.roles l.amount) (take l.window-index l.windows) l.begun l.ended;
}
