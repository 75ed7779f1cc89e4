use Rattle.std.proofs.Common.{◌≡◌, ℕ, List, take}
use Rattle.std.specs.List.{list_any}
use Rattle.cs_theorem.specs.Faults.{same_list}
use Rattle.cs_classes.specs.ByClasses.{is_among}
use Rattle.cs_classes.specs.Said.{said}
use Rattle.cs_classes.proofs.by_classes.class_lists.Given as goal

abbrev pub invariant-loop-number : goal.invariant-loop-number
invariant-loop-number l = (classes : List ℕ) → is_among l.lists.keys classes ≡ list_any (λ s. same_list s.of classes) (take l.number (said l.claim).stretches)
