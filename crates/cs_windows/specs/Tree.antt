use Rattle.std.specs.Prelude.{ℕ, ◌<◌, Bool, ◌||◌, not, List, [], ◌∷◌, ◌++◌, nat_lt, if◌then◌else◌, Contains, IsTrue}
use Rattle.std.specs.List.{list_all}
use Rattle.cs_windows.specs.declared.window.Window.{Window}
use Rattle.cs_civil.specs.declared.minute.TheConstants.{MINUTES_OF_DAY}
use Rattle.cs_windows.specs.declared.tree.Entry.{Entry}
use Rattle.cs_windows.specs.declared.tree.MinuteTree.{MinuteTree, Leaf, Split'}
use Rattle.cs_windows.specs.Window.{Holds, touches}
use Rattle.cs_windows.specs.Entries.{lists}

-- a tree by its value, wherever its parts lie in memory
pub data Tree : Type 0 where
  leaf : List Entry → Tree
  split : ℕ → Tree → Tree → Tree

abbrev pub tree_of : MinuteTree → Tree
tree_of (Leaf entries) = leaf entries
tree_of (Split' at p before q after) = split at (tree_of before) (tree_of after)

-- over [lo, hi), each split is inside its range
abbrev pub SplitsInside : Tree → ℕ → ℕ → Type 0
SplitsInside (leaf entries) lo hi = Unit {0}
SplitsInside (split at before after) lo hi =
    (lo < at) × (at < hi) × SplitsInside before lo at × SplitsInside after at hi

-- the entries of the leaf whose range holds a minute
abbrev pub entries_at : Tree → ℕ → List Entry
entries_at (leaf entries) minute = entries
entries_at (split at before after) minute =
    if nat_lt minute at then entries_at before minute else entries_at after minute

pub record LeafOver : Type 0 where
  pub lo : ℕ
  pub hi : ℕ
  pub entries : List Entry

abbrev pub leaf_over : ℕ → ℕ → List Entry → LeafOver
leaf_over lo hi entries = record { lo = lo; hi = hi; entries = entries }

abbrev pub leaves : Tree → ℕ → ℕ → List LeafOver
leaves (leaf entries) lo hi = leaf_over lo hi entries ∷ []
leaves (split at before after) lo hi = leaves before lo at ++ leaves after at hi

-- if the window touches the leaf's range, the leaf lists it
abbrev pub keeps_to : LeafOver → Window → Bool
keeps_to l w = not (touches w l.lo l.hi) || lists l.entries w

-- whether each leaf lists every window that touches its range
abbrev pub covers : Tree → List Window → Bool
covers tree windows =
    list_all (λ w. list_all (λ l. keeps_to l w) (leaves tree 0 MINUTES_OF_DAY)) windows

-- at each minute of the day, every given window that holds it is listed in the leaf of the minute
abbrev pub IsComplete : Tree → List Window → Type 0
IsComplete tree windows = (minute : ℕ) → minute < MINUTES_OF_DAY → (w : Window) → Contains windows w
    → Holds w minute → IsTrue (lists (entries_at tree minute) w)
