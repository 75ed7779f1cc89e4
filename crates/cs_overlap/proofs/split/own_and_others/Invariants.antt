use Rattle.std.proofs.Common.{◌≡◌, ◌*◌, take, length, filter}
use Rattle.cs_overlap.specs.declared.table.Amount.TheVariants.{OwnWeight}
use Rattle.cs_overlap.specs.Sums.{AreAtMost, IsTally, amount_in, has_group_or_catches}
use Rattle.cs_overlap.proofs.split.own_and_others.Given as goal

abbrev pub invariant-loop-window : goal.invariant-loop-window
invariant-loop-window l = record {
  begun_long : length l.begun ≡ 1441;
  ended_long : length l.ended ≡ 1441;
  begun_small : AreAtMost (255 * l.window-index) l.begun;
  ended_small : AreAtMost (255 * l.window-index) l.ended;
  tally : IsTally (amount_in l.roles OwnWeight) (take l.window-index l.windows) l.begun l.ended;
  kept : l.others.items ≡ filter (has_group_or_catches l.roles) (take l.window-index l.windows);
}
