use Rattle.std.proofs.Common.{◌≤◌, take}
use Rattle.std.specs.List.{AllByRecursion}
use Rattle.cs_overlap.specs.Sums.{IsLone}
use Rattle.cs_overlap.proofs.sums.all_lone_until.Given as goal

abbrev pub invariant-loop-window : goal.invariant-loop-window
invariant-loop-window l = (l.end ≤ 1440) × AllByRecursion (IsLone l.end l.roles l.takers) (take l.window-index l.windows)
