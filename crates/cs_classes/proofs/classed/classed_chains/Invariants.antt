use Rattle.std.proofs.Common.{◌≡◌, ◌++◌, map, All}
use Rattle.cs_theorem.specs.Faults.{chains}
use Rattle.cs_daytree.specs.Tree.{class_in, tree_of}
use Rattle.cs_classes.specs.Chains.{kinds_of}
use Rattle.cs_classes.specs.Used.{kinds_in, classes_in}
use Rattle.cs_classes.proofs.classed.classed_chains.Given as goal

abbrev pub invariant-loop-kinds : goal.invariant-loop-kinds
invariant-loop-kinds l = record {
  all : map kinds_in l.classed.items ++ map kinds_of l.kinds-iterator.rest.items ≡ chains l.days;
  classes : All (λ chain. classes_in chain ≡ map (class_in (tree_of l.tree)) (kinds_in chain)) l.classed.items;
}
