use Rattle.std.proofs.Common.{sym, ◌∙◌}
use Rattle.cs_windows.specs.Tree.{leaves, tree_of}
use Rattle.cs_windows.proofs.Trees.{part-after, entries-after}
use Rattle.cs_windows.proofs.tree.MinuteTree.leaf_at.Goals as goal

pub loop-tree-preserved : goal.loop-tree-preserved
loop-tree-preserved c =
    let e = c.deref-tree-else-minute-at.ensures in
    let splits = rw c.in-Split.is at c.loop-tree.invariant.splits in
    let part = rw c.in-Split.is at c.loop-tree.invariant.part in
    let entries = rw c.in-Split.is at c.loop-tree.invariant.entries in
    let before = tree_of c.in-Split.before.value in
    let after = tree_of c.in-Split.after.value in
    record {
      from = c.if-minute-at.false;
      to = c.loop-tree.invariant.to;
      splits = rw e splits.3;
      part = rw e (part-after (leaves (tree_of c.args.self.now) 0 1440) (leaves before c.loop-tree.lo c.in-Split.at) (leaves after c.in-Split.at c.loop-tree.hi) part);
      entries = rw e (sym (entries-after c.in-Split.at c.args.minute before after c.if-minute-at.false) ∙ entries);
    }
