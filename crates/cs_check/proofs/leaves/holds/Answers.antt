use Rattle.std.proofs.Common.{Option, subst, sym}
use Rattle.cs_theorem.specs.Accepted.{ListsAll}
use Rattle.cs_windows.specs.Tree.{SplitsInside, Tree, tree_of}
use Rattle.cs_classes.specs.Used.{AreInside}
use Rattle.cs_check.proofs.Covering.{covered_from, none_seen, tree_seen}
use Rattle.cs_check.proofs.leaves.holds.Goals as goal

pub returns-in-Some : goal.returns-in-Some
returns-in-Some c = λ covers.
    let tree = tree_of c.in-Some.tree.now in
    let seen = tree_seen c.args.used.now c.in-Some.tree c.in-Some.is in
    let inside : SplitsInside tree 0 1440 = subst AreInside seen c.requires in
    subst (λ (t : Option Tree). ListsAll t c.args.windows.now) (sym seen) (covered_from tree c.args.windows.now ((c.covers.ensures.complete inside).0 covers))

pub returns-in-None : goal.returns-in-None
returns-in-None c = λ _. subst (λ (t : Option Tree). ListsAll t c.args.windows.now) (sym (none_seen c.args.used.now c.in-None.is)) tt
