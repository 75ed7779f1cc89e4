use Rattle.std.proofs.Common.{◌≡◌, ℕ, ◌<◌, ◌≤◌, List, [], ◌∷◌, Bool, true, false, ◌&&◌, ◌||◌, cond, nat_lt, nat_eq, filter, Ok, refl, ◌∙◌, arith}
use Rattle.std.proofs.lemmas.Bool.{ltb-true, eqb-true}
use Rattle.std.specs.List.{list_all}
use Rattle.serde_json.specs.Data.{string}
use Rattle.cs_daytree.specs.Tree as day
use Rattle.cs_daytree.specs.Possible.{Numbers, is_part_of, kept, narrowed, numbers_of, splits_fit}
use Rattle.cs_daytree.specs.declared.tree.KindPart.{KindPart}
use Rattle.cs_daytree.specs.declared.tree.KindPart.TheVariants.{Month, Day, Weekday}
use Rattle.cs_windows.specs.Tree as minute
use Rattle.cs_claims.specs.Rules.{entries_fit, entry_fits, leaves_pass, splits_inside}
use Rattle.cs_cert.specs.Said.{entry_said}
use Rattle.cs_cert.specs.TreeSaid.{day_leaf_said, day_split_said, day_tree_said, minute_leaf_said, minute_split_said, minute_tree_said, part_said}
use Rattle.cs_cert.specs.Written.{day_tree_data, entry_data, minute_tree_data, part_name}
use Rattle.cs_cert.proofs.Back.{entry_back, held_back, list_back, numbers_back}
use Rattle.cs_claims.proofs.Both.{and_both, both_and}
use Rattle.cs_cert.proofs.Trees.{day_leaf, day_split, minute_leaf, minute_split}

-- ---- minute trees

pub minute_back : (days : ℕ) → days ≤ 255 → (t : minute.Tree) (lo hi : ℕ) → hi ≤ 1440 → splits_inside t lo hi ≡ true → leaves_pass (entries_fit days) t ≡ true → minute_tree_said (minute_tree_data t) ≡ Ok t
unfolding minute_leaf_said minute_split_said
minute_back days d (minute.leaf entries) lo hi b s h = minute_leaf _ refl ∙ rw (list_back entry_said entry_data (entry_fits days) (entry_back days d) entries h) refl
minute_back days d (minute.split at before after) lo hi b s h =
    let p = and_both _ (splits_inside after at hi) s in
    let q = and_both _ (splits_inside before lo at) p.0 in
    let r = and_both (nat_lt lo at) (nat_lt at hi) q.0 in
    let below = ltb-true at hi r.1 in
    let k = and_both (leaves_pass (entries_fit days) before) (leaves_pass (entries_fit days) after) h in
    minute_split _ refl
    ∙ rw (held_back 65535 at (omega (arith, below, b)), minute_back days d before lo at (omega (arith, below, b)) q.1 k.0, minute_back days d after at hi b p.1 k.1) refl

-- ---- day trees

abbrev small : List ℕ → Bool
small ns = list_all (λ n. nat_lt n 32) ns

small_cond : (b : Bool) (n : ℕ) (ns : List ℕ) → nat_lt n 32 ≡ true → small ns ≡ true → small (cond b (n ∷ ns) ns) ≡ true
small_cond true n ns h k = both_and _ _ h k
small_cond false n ns h k = k

small_filter : (f : ℕ → Bool) (ns : List ℕ) → small ns ≡ true → small (filter f ns) ≡ true
small_filter f [] h = refl
small_filter f (n ∷ ns) h =
    let p = and_both (nat_lt n 32) (small ns) h in
    small_cond (f n) n (filter f ns) p.0 (small_filter f ns p.1)

any_small : (b : Bool) (x n : ℕ) (xs : List ℕ) → nat_eq x n ≡ b → (b || day.has xs n) ≡ true → nat_lt x 32 ≡ true → (day.has xs n ≡ true → nat_lt n 32 ≡ true) → nat_lt n 32 ≡ true
any_small true x n xs e h k more = let same : x ≡ n = eqb-true x n e in rw (← same) k
any_small false x n xs e h k more = more h

in_small : (xs : List ℕ) (n : ℕ) → day.has xs n ≡ true → small xs ≡ true → nat_lt n 32 ≡ true
in_small [] n h k = cc
in_small (x ∷ xs) n h k =
    let p = and_both (nat_lt x 32) (small xs) k in
    any_small (nat_eq x n) x n xs refl h p.0 (λ g. in_small xs n g p.1)

all_small : (ns xs : List ℕ) → list_all (day.has xs) ns ≡ true → small xs ≡ true → small ns ≡ true
all_small [] xs h k = refl
all_small (n ∷ ns) xs h k =
    let p = and_both (day.has xs n) (list_all (day.has xs) ns) h in
    both_and _ _ (in_small xs n p.0 k) (all_small ns xs p.1 k)

abbrev AreSmall : Numbers → Type 0
AreSmall p = (small p.months ≡ true) × (small p.days ≡ true) × (small p.weekdays ≡ true)

kept_small : (ns : List ℕ) (inside : Bool) (xs : List ℕ) → small xs ≡ true → small (kept ns inside xs) ≡ true
unfolding kept
kept_small ns inside xs h = small_filter _ xs h

narrowed_small : (part : KindPart) (ns : List ℕ) (inside : Bool) (p : Numbers) → AreSmall p → AreSmall (narrowed part ns inside p)
narrowed_small Month ns inside p h = (kept_small ns inside p.months h.0, h.1, h.2)
narrowed_small Day ns inside p h = (h.0, kept_small ns inside p.days h.1, h.2)
narrowed_small Weekday ns inside p h = (h.0, h.1, kept_small ns inside p.weekdays h.2)

of_small : (part : KindPart) (p : Numbers) → AreSmall p → small (numbers_of part p) ≡ true
of_small Month p h = h.0
of_small Day p h = h.1
of_small Weekday p h = h.2

part_back : (part : KindPart) → part_said (string (part_name part)) ≡ Ok part
part_back Month = refl
part_back Day = refl
part_back Weekday = refl

pub day_back : (p : Numbers) (count : ℕ) (t : day.Tree) → AreSmall p → count ≤ 2562 → splits_fit p t ≡ true → day.greatest_class t < count → day_tree_said (day_tree_data t) ≡ Ok t
unfolding splits_fit day_leaf_said day_split_said
day_back p count (day.leaf class) s c h g = day_leaf _ refl ∙ rw (held_back 4294967295 class (omega (arith, c, g))) refl
day_back p count (day.split part ns inside outside) s c h g =
    let first = and_both (is_part_of ns (numbers_of part p) && splits_fit (narrowed part ns true p) inside) (splits_fit (narrowed part ns false p) outside) h in
    let second = and_both (is_part_of ns (numbers_of part p)) (splits_fit (narrowed part ns true p) inside) first.0 in
    let third = and_both _ _ second.0 in
    let fourth = and_both _ (list_all (day.has (numbers_of part p)) ns) third.0 in
    let values = all_small ns (numbers_of part p) fourth.1 (of_small part p s) in
    day_split _ refl
    ∙ rw (
      part_back part,
      numbers_back 255 32 (omega arith) ns values,
      day_back (narrowed part ns true p) count inside (narrowed_small part ns true p s) c second.1 (omega (arith, g)),
      day_back (narrowed part ns false p) count outside (narrowed_small part ns false p s) c first.1 (omega (arith, g)),
    ) refl
