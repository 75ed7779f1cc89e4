use Rattle.std.proofs.Common.{◌≡◌, take, length}
use Rattle.cs_overlap.specs.Sums.{IsSum, amount_in}
use Rattle.cs_overlap.proofs.table.sums_by_minute.Given as goal

abbrev pub invariant-loop-window : goal.invariant-loop-window
invariant-loop-window l = (length l.table ≡ 1440) × IsSum (amount_in l.roles l.amount) (take l.window-index l.windows) l.table
