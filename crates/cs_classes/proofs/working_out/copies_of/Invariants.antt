use Rattle.std.proofs.Common.{◌≡◌, ◌++◌, map}
use Rattle.cs_classes.proofs.working_out.copies_of.Given as goal

abbrev pub invariant-loop-classes : goal.invariant-loop-classes
invariant-loop-classes l = l.copies.items ++ map (λ list. list.now) l.classes-iterator ≡ map (λ list. list.now) l.lists.keys
