use Rattle.std.proofs.Common.{◌≡◌, ℕ, ◌<◌, ◌≤◌, ◌++◌, Bool, true, false, not, ◌||◌, ◌&&◌, cond, List, [], ◌∷◌, Contains, refl, sym, ap, ◌∙◌, arith, inl, inr, ⊎_elim, ◌↔◌}
use Rattle.std.specs.List.{list_all}
use Rattle.std.proofs.lemmas.List.Folds.{list_all-append}
use Rattle.std.proofs.lemmas.Bool.{cases_lt, lt-ltb, le-ltb}
use Rattle.std.proofs.lemmas.List.Elements.{Contains-append_left, Contains-append_right}
use Rattle.cs_windows.specs.declared.window.Window.{Window}
use Rattle.cs_windows.specs.declared.tree.Entry.{Entry}
use Rattle.cs_windows.specs.Window.{touches, Holds}
use Rattle.cs_windows.specs.Entries.{lists}
use Rattle.cs_windows.specs.Tree.{Tree, leaf, split, SplitsInside, LeafOver, IsComplete, covers, entries_at, keeps_to, leaves}
use Rattle.cs_windows.proofs.Members.{Has, has_contains, contains_has}
use Rattle.cs_windows.proofs.Touching.{touches_held, held_touches, touches-part}

both_true : (a b : Bool) → (a && b) ≡ true → (a ≡ true) × (b ≡ true)
both_true true b e = (refl, e)
both_true false b e = cc

true_both : (a b : Bool) → a ≡ true → b ≡ true → (a && b) ≡ true
true_both true b e f = f
true_both false b e f = cc

all_both : (p : LeafOver → Bool) (xs ys : List LeafOver) → list_all p xs ≡ true → list_all p ys ≡ true → list_all p (xs ++ ys) ≡ true
all_both p xs ys h k = list_all-append p xs ys ∙ true_both (list_all p xs) (list_all p ys) h k

both_all : (p : LeafOver → Bool) (xs ys : List LeafOver) → list_all p (xs ++ ys) ≡ true → (list_all p xs ≡ true) × (list_all p ys ≡ true)
both_all p xs ys h = both_true (list_all p xs) (list_all p ys) (sym (list_all-append p xs ys) ∙ h)

untouched : (b c : Bool) → b ≡ false → ((not b || c) && true) ≡ true
untouched true c h = cc
untouched false c h = refl

-- the leaves of a tree over a range that a window doesn't touch owe it nothing
pub keeps-untouched : (w : Window) (tree : Tree) (lo hi : ℕ) → SplitsInside tree lo hi → touches w lo hi ≡ false → list_all (λ l. keeps_to l w) (leaves tree lo hi) ≡ true
keeps-untouched w (leaf entries) lo hi r h = untouched (touches w lo hi) (lists entries w) h
keeps-untouched w (split at before after) lo hi r h =
    all_both (λ l. keeps_to l w) (leaves before lo at) (leaves after at hi)
    (keeps-untouched w before lo at r.2 (touches-part w lo hi lo at (omega arith) (omega arith) h))
    (keeps-untouched w after at hi r.3 (touches-part w lo hi at hi (omega arith) (omega arith) h))

pub part-before : (whole : List LeafOver) (xs ys : List LeafOver) → ((x : LeafOver) → Contains (xs ++ ys) x → Contains whole x) → (x : LeafOver) → Contains xs x → Contains whole x
part-before whole xs ys h x k = h x (Contains-append_left xs ys x k)

pub part-after : (whole : List LeafOver) (xs ys : List LeafOver) → ((x : LeafOver) → Contains (xs ++ ys) x → Contains whole x) → (x : LeafOver) → Contains ys x → Contains whole x
part-after whole xs ys h x k = h x (Contains-append_right xs ys x k)

abbrev ListedIn : Window → Tree → ℕ → ℕ → Type 0
ListedIn w tree lo hi = (minute : ℕ) → lo ≤ minute → minute < hi → Holds w minute → lists (entries_at tree minute) w ≡ true

leaf_keeps : (b c : Bool) → b ≡ true → ((not b || c) && true) ≡ true → c ≡ true
leaf_keeps true true e h = refl
leaf_keeps true false e h = cc
leaf_keeps false c e h = cc

keeps_leaf : (b c : Bool) → (b ≡ true → c ≡ true) → ((not b || c) && true) ≡ true
keeps_leaf true c h = ap (λ (x : Bool). x && true) (h refl)
keeps_leaf false c h = refl

pub entries-before : (at minute : ℕ) (before after : Tree) → minute < at → entries_at (split at before after) minute ≡ entries_at before minute
entries-before at minute before after lt = ap (λ (b : Bool). cond b (entries_at before minute) (entries_at after minute)) (lt-ltb minute at lt)

pub entries-after : (at minute : ℕ) (before after : Tree) → at ≤ minute → entries_at (split at before after) minute ≡ entries_at after minute
entries-after at minute before after le = ap (λ (b : Bool). cond b (entries_at before minute) (entries_at after minute)) (le-ltb minute at le)

at_before : (at minute : ℕ) (before after : Tree) (w : Window) → minute < at → lists (entries_at (split at before after) minute) w ≡ lists (entries_at before minute) w
at_before at minute before after w lt = ap (λ (es : List Entry). lists es w) (entries-before at minute before after lt)

at_after : (at minute : ℕ) (before after : Tree) (w : Window) → at ≤ minute → lists (entries_at (split at before after) minute) w ≡ lists (entries_at after minute) w
at_after at minute before after w le = ap (λ (es : List Entry). lists es w) (entries-after at minute before after le)

listed : (w : Window) (tree : Tree) (lo hi : ℕ) → SplitsInside tree lo hi → list_all (λ l. keeps_to l w) (leaves tree lo hi) ≡ true → ListedIn w tree lo hi
listed w (leaf entries) lo hi r h minute low high held = leaf_keeps (touches w lo hi) (lists entries w) (held_touches w lo hi minute low high held) h
listed w (split at before after) lo hi r h minute low high held =
    let k = both_all (λ l. keeps_to l w) (leaves before lo at) (leaves after at hi) h in
    ⊎_elim (λ (lt : minute < at). at_before at minute before after w lt ∙ listed w before lo at r.2 k.0 minute low lt held)
    (λ (le : at ≤ minute). at_after at minute before after w le ∙ listed w after at hi r.3 k.1 minute le high held) (cases_lt minute at)

kept : (w : Window) (tree : Tree) (lo hi : ℕ) → SplitsInside tree lo hi → ListedIn w tree lo hi → list_all (λ l. keeps_to l w) (leaves tree lo hi) ≡ true
kept w (leaf entries) lo hi r h = keeps_leaf (touches w lo hi) (lists entries w) (λ t. let k = touches_held w lo hi t in h k.0 k.1 k.2 k.3)
kept w (split at before after) lo hi r h =
    all_both (λ l. keeps_to l w) (leaves before lo at) (leaves after at hi)
    (kept w before lo at r.2 (λ minute low high held. sym (at_before at minute before after w high) ∙ h minute low (omega (arith, high, r.1)) held))
    (kept w after at hi r.3 (λ minute low high held. sym (at_after at minute before after w low) ∙ h minute (omega (arith, low, r.0)) high held))

all_has : (p : Window → Bool) (ws : List Window) → list_all p ws ≡ true → (w : Window) → Has ws w → p w ≡ true
all_has p [] h w k = absurd k
all_has p (v ∷ ws) h w (inl e) = ap p (sym e) ∙ (both_true (p v) (list_all p ws) h).0
all_has p (v ∷ ws) h w (inr k) = all_has p ws (both_true (p v) (list_all p ws) h).1 w k

has_all : (p : Window → Bool) (ws : List Window) → ((w : Window) → Has ws w → p w ≡ true) → list_all p ws ≡ true
has_all p [] h = refl
has_all p (v ∷ ws) h = true_both (p v) (list_all p ws) (h v (inl refl)) (has_all p ws (λ w k. h w (inr k)))

-- if the splits are inside their ranges, a tree covers windows exactly if each minute's entries
-- list those that hold it
pub covers_each : (tree : Tree) (ws : List Window) → SplitsInside tree 0 1440
    → (covers tree ws ≡ true) ↔ IsComplete tree ws
covers_each tree ws inside = (
  λ h minute lt w c held. listed w tree 0 1440 inside (all_has (λ w. list_all (λ l. keeps_to l w) (leaves tree 0 1440)) ws h w (contains_has ws w c)) minute (omega arith) lt held,
  λ h. has_all (λ w. list_all (λ l. keeps_to l w) (leaves tree 0 1440)) ws (λ w k. kept w tree 0 1440 inside (λ minute low lt held. h minute lt w (has_contains ws w k) held)),
)
