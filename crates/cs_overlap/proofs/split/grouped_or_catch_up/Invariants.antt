use Rattle.std.proofs.Common.{◌≡◌, ◌++◌, drop, filter}
use Rattle.cs_overlap.specs.Sums.{has_group_or_catches}
use Rattle.cs_overlap.proofs.split.grouped_or_catch_up.Given as goal

abbrev pub invariant-loop-window : goal.invariant-loop-window
invariant-loop-window l = filter (has_group_or_catches l.roles) l.windows ≡ l.found.items ++ filter (has_group_or_catches l.roles) (drop l.window-index l.windows)
