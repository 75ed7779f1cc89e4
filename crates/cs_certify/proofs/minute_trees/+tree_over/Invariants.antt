use Rattle.cs_certify.proofs.minute_trees.+tree_over.Given as goal

abbrev pub decreases-tree_over : goal.decreases-tree_over
decreases-tree_over l = l.cuts
