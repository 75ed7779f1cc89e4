use Rattle.std.proofs.Common.{◌≡◌, true, take}
use Rattle.cs_windows.specs.Tree.{covers, tree_of}
use Rattle.cs_windows.proofs.tree.MinuteTree.keeps_all.Given as goal

abbrev pub invariant-loop-place : goal.invariant-loop-place
invariant-loop-place l = covers (tree_of l.self) (take l.place l.windows) ≡ true
