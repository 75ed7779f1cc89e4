use Rattle.std.proofs.Common.{◌≡◌, ◌<◌, ◌≤◌, Contains}
use Rattle.cs_windows.specs.Tree.{SplitsInside, LeafOver, entries_at, leaves, tree_of}
use Rattle.cs_windows.proofs.tree.MinuteTree.leaf_at.Given as goal

abbrev pub invariant-loop-tree : goal.invariant-loop-tree
invariant-loop-tree l = record {
  from : l.lo ≤ l.minute;
  to : l.minute < l.hi;
  splits : SplitsInside (tree_of l.tree) l.lo l.hi;
  part : (x : LeafOver) → Contains (leaves (tree_of l.tree) l.lo l.hi) x → Contains (leaves (tree_of l.self) 0 1440) x;
  entries : entries_at (tree_of l.tree) l.minute ≡ entries_at (tree_of l.self) l.minute;
}
