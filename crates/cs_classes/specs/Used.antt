use Rattle.std.specs.Prelude.{◌≡◌, ◌<◌, ℕ, Bool, List, All, Contains, None, Option, Some, ⊤, length, map, option_map}
use Rattle.cs_civil.specs.Calendar.{Kind}
use Rattle.cs_theorem.specs.Accepted.{IsChain}
use Rattle.cs_theorem.specs.Certificate.{Stretch}
use Rattle.cs_theorem.specs.Faults.{chains, same_list}
use Rattle.cs_daytree.specs.Tree as day
use Rattle.cs_windows.specs.Tree.{SplitsInside, Tree, tree_of}
use Rattle.cs_classes.specs.Claim.{Claimed, class_of}
use Rattle.cs_classes.specs.declared.claim.JudgedStretch.{JudgedStretch}
use Rattle.cs_classes.specs.declared.classed.ClassedChain.{ClassedChain}
use Rattle.cs_classes.specs.declared.used.UsedStretch.{UsedStretch}

abbrev pub kinds_in : ClassedChain → List Kind
kinds_in chain = chain.kinds.items

abbrev pub classes_in : ClassedChain → List ℕ
classes_in chain = chain.classes.items

abbrev pub has_classes : List ℕ → ClassedChain → Bool
has_classes classes chain = same_list (classes_in chain) classes

-- all chains of n kinds, each with the classes of its kinds
pub record AreClassed (kinds : day.Tree) (n : ℕ) (listed : List ClassedChain) : Type 0 where
  pub all : map kinds_in listed ≡ chains n
  pub classes : All (λ chain. classes_in chain ≡ map (day.class_in kinds) (kinds_in chain)) listed

-- n successive days may be of these kinds, whose classes are those named
pub record HaveClasses (c : Claimed) (n : ℕ) (named : List ℕ) (kinds : List Kind) : Type 0 where
  pub chain : IsChain kinds
  pub long : length kinds ≡ n
  pub classes : map (class_of c) kinds ≡ named

-- some chain of the list has these classes and these kinds
abbrev pub IsOneOf : List ClassedChain → List ℕ → List Kind → Type 0
IsOneOf chains named kinds = (chain : ClassedChain) × Contains chains chain
    × (classes_in chain ≡ named) × (kinds_in chain ≡ kinds)

-- a stretch that is judged, and one in use, as the rules see it
abbrev pub shown : JudgedStretch → Stretch
shown s = record { of = s.of.now; tree = option_map (λ tree. tree_of tree.now) s.tree }

abbrev pub seen : UsedStretch → Stretch
seen used = record { of = used.of.now; tree = option_map (λ tree. tree_of tree.now) used.tree }

-- the splits of the tree, if there is one, are inside their ranges
abbrev pub AreInside : Option Tree → Type 0
AreInside None = ⊤
AreInside (Some tree) = SplitsInside tree 0 1440

-- successive days may be of these kinds; they have the stretch's classes, which exist; and the
-- splits of its tree are inside their ranges
pub record IsInUse (c : Claimed) (n : ℕ) (used : UsedStretch) : Type 0 where
  pub kinds : HaveClasses c n used.of.now used.kinds.items
  pub there : All (λ class. class < length c.classes) used.of.now
  pub splits : AreInside (seen used).tree
