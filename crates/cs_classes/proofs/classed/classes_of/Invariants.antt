use Rattle.std.proofs.Common.{◌≡◌, map, take}
use Rattle.cs_daytree.specs.Tree.{class_in, tree_of}
use Rattle.cs_classes.proofs.classed.classes_of.Given as goal

abbrev pub invariant-loop-kind : goal.invariant-loop-kind
invariant-loop-kind l = l.classes.items ≡ map (class_in (tree_of l.tree)) (take l.kind-index l.chain.items)
