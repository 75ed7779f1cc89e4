use Rattle.std.proofs.Common.{◌≡◌, ℕ, ◌+◌, ◌<◌, true, Bor, List, None, Some, option_map, ap, subst, arith}
use Rattle.cs_classes.specs.Used.{seen}
use Rattle.cs_classes.specs.declared.used.UsedStretch.{UsedStretch}
use Rattle.cs_windows.specs.declared.tree.MinuteTree.{MinuteTree}
use Rattle.std.specs.List.{AllByRecursion}
use Rattle.cs_history.proofs.Lists.{all_zip, all-filter, all_passes}
use Rattle.cs_windows.specs.declared.window.Window.{Window}
use Rattle.cs_windows.specs.Window.{Holds, touches}
use Rattle.cs_windows.specs.Entries.{lists}
use Rattle.cs_windows.specs.Tree.{IsComplete, Tree, entries_at, tree_of}
use Rattle.cs_windows.proofs.Members.{Has, has_contains}
use Rattle.cs_windows.proofs.Touching.{touches_held}
use Rattle.cs_theorem.specs.Windows.{holders}
use Rattle.cs_theorem.proofs.Says.{all_from_has}

held : (w : Window) (m : ℕ) → touches w m (m + 1) ≡ true → Holds w m
held w m t = let h = touches_held w m (m + 1) t in let e : h.0 ≡ m = omega (arith, h.1, h.2) in subst (Holds w) e h.3

pub covered_from : (tree : Tree) (ws : List Window) → IsComplete tree ws → (m : ℕ) → m < 1440 → AllByRecursion (λ w. lists (entries_at tree m) w ≡ true) (holders m ws)
covered_from tree ws complete m lt =
    all_zip (Has ws) (λ w. touches w m (m + 1) ≡ true) (λ w. lists (entries_at tree m) w ≡ true) (holders m ws) (λ w has t. complete m lt w (has_contains ws w has) (held w m t))
    (all-filter (Has ws) (λ w. touches w m (m + 1)) ws (all_from_has (Has ws) ws (λ w h. h))) (all_passes (λ w. touches w m (m + 1)) ws)

pub tree_seen : (u : UsedStretch) (tree : Bor MinuteTree) → u.tree ≡ Some tree → (seen u).tree ≡ Some (tree_of tree.now)
tree_seen u tree is = ap (option_map (λ (b : Bor MinuteTree). tree_of b.now)) is

pub none_seen : (u : UsedStretch) → u.tree ≡ None → (seen u).tree ≡ None
none_seen u is = ap (option_map (λ (b : Bor MinuteTree). tree_of b.now)) is
