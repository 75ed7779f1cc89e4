use Rattle.std.specs.Prelude.{◌≡◌, ℕ, Bool, false, List, Option, None, Some, Contains, nat_eq}
use Rattle.std.specs.Borrow.{Bor}
use Rattle.std.specs.List.{list_any}
use Rattle.std.specs.Cmp.Lexicographic.{pointwise}
use Rattle.indexmap.specs.IndexMap.{IndexMap, get}
use Rattle.cs_classes.specs.Used.{classes_in, has_classes}
use Rattle.cs_classes.specs.declared.classed.ClassedChain.{ClassedChain}

abbrev pub same_classes : Bor (List ℕ) → Bor (List ℕ) → Bool
same_classes one other = pointwise nat_eq one.now other.now

abbrev pub is_among : List (Bor (List ℕ)) → List ℕ → Bool
is_among lists classes = list_any (λ list. pointwise nat_eq classes list.now) lists

-- what these classes find: a chain of the list that has them, or nothing if none has
abbrev pub IsFoundBy : List ClassedChain → List ℕ → Option (Bor ClassedChain) → Type 0
IsFoundBy chains classes None = list_any (has_classes classes) chains ≡ false
IsFoundBy chains classes (Some chain) = Contains chains chain.now × (classes_in chain.now ≡ classes)

-- each list of classes leads to what it finds
abbrev pub LeadTo : {S : Type 0} → List ClassedChain → IndexMap (Bor (List ℕ)) (Bor ClassedChain) S
    → Type 0
LeadTo chains by =
    (classes : Bor (List ℕ)) → IsFoundBy chains classes.now (get same_classes by classes)
