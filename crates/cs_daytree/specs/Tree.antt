use Rattle.std.specs.Prelude.{ℕ, ◌+◌, max, Bool, List, nat_eq, if◌then◌else◌}
use Rattle.std.specs.List.{list_any}
use Rattle.cs_civil.specs.Calendar.{Kind}
use Rattle.cs_daytree.specs.declared.tree.KindPart.{KindPart}
use Rattle.cs_daytree.specs.declared.tree.KindPart.TheVariants.{Month, Day, Weekday}
use Rattle.cs_daytree.specs.declared.tree.DayTree.{DayTree, Leaf, Split'}

-- a tree by its value, wherever its parts lie in memory
pub data Tree : Type 0 where
  leaf : ℕ → Tree
  split : KindPart → List ℕ → Tree → Tree → Tree

abbrev pub tree_of : DayTree → Tree
tree_of (Leaf class) = leaf class
tree_of (Split' part values p inside q outside) =
    split part values (tree_of inside) (tree_of outside)

abbrev pub number_of : KindPart → Kind → ℕ
number_of Month kind = kind.month
number_of Day kind = kind.dom
number_of Weekday kind = kind.dow

abbrev pub has : List ℕ → ℕ → Bool
has values number = list_any (λ value. nat_eq value number) values

-- the class of a kind: of each split the half that its number belongs to
abbrev pub class_in : Tree → Kind → ℕ
class_in (leaf class) kind = class
class_in (split part values inside outside) kind =
    if has values (number_of part kind) then class_in inside kind else class_in outside kind

abbrev pub greatest_class : Tree → ℕ
greatest_class (leaf class) = class
greatest_class (split part values inside outside) =
    max (greatest_class inside) (greatest_class outside)

-- a leaf has depth 0, a split one more than its deeper half
abbrev pub depth : Tree → ℕ
depth (leaf class) = 0
depth (split part values inside outside) = max (depth inside) (depth outside) + 1
