use Rattle.std.proofs.Common.{◌≡◌, ◌++◌, drop, filter}
use Rattle.cs_overlap.specs.Sums.{is_of}
use Rattle.cs_overlap.proofs.sums.windows_of.Given as goal

abbrev pub invariant-loop-window : goal.invariant-loop-window
invariant-loop-window l = filter (is_of l.roles l.group) l.windows ≡ l.found.items ++ filter (is_of l.roles l.group) (drop l.window-index l.windows)
