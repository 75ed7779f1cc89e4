-- How deep the JSON of a certificate is, and that it holds no float.
use Rattle.std.proofs.Common.{◌≡◌, ℕ, ◌+◌, ◌≤◌, List, [], ◌∷◌, map, Bool, true, false, refl, arith}
use Rattle.std.specs.Prelude.{if◌then◌else◌, ◌==◌}
use Rattle.std.specs.List.{list_all}
use Rattle.std.proofs.lemmas.Bool.{leb-true}
use Rattle.serde_json.specs.Data.{Data, depth, items_depth}
use Rattle.serde_json.specs.Read.{max_depth}
use Rattle.serde_json.specs.View.{items_of}
use Rattle.serde_json.specs.Written.{has_float}
use Rattle.cs_json.specs.NoFloat.{list_no_float, pair_no_float, triple_no_float}
use Rattle.cs_daytree.specs.Tree as day
use Rattle.cs_windows.specs.Tree as minute
use Rattle.cs_wait.specs.Bounds.{at}
use Rattle.cs_windows.specs.declared.tree.Entry.{Entry}
use Rattle.cs_wait.specs.declared.backlog.Piece.{Piece}
use Rattle.cs_claims.specs.declared.class.Class.{Class}
use Rattle.cs_claims.specs.declared.class.DueList.{DueList}
use Rattle.cs_claims.specs.declared.class.GroupBacklog.{GroupBacklog}
use Rattle.cs_claims.specs.Content.{Content, StretchTree}
use Rattle.cs_claims.specs.Rules.{is_shallow}
use Rattle.cs_claims.specs.Rules as rule
use Rattle.cs_cert.specs.Written.{carry_class_data, carry_data, certificate_data, class_data, first_version_data, second_version_data, third_version_data, listed_data, day_tree_data, due_list_data, entry_data, group_backlog_data, list_data, minute_tree_data, number_data, piece_data, reach_data, stretch_data}
use Rattle.cs_claims.proofs.Both.{and_both}

-- ---- depth

items_within : {A : Type 0} (spelled : A → Data) (test : A → Bool) (n : ℕ) → ((x : A) → test x ≡ true → depth (spelled x) ≤ n) → (xs : List A) → list_all test xs ≡ true → items_depth (items_of (map spelled xs)) ≤ n
items_within spelled test n within [] h = omega arith
items_within spelled test n within (x ∷ xs) h =
    let p = and_both (test x) (list_all test xs) h in
    omega (arith, within x p.0, items_within spelled test n within xs p.1)

all_pass : {A : Type 0} (xs : List A) → list_all (λ x. true) xs ≡ true
all_pass [] = refl
all_pass (x ∷ xs) = all_pass xs

items_all : {A : Type 0} (spelled : A → Data) (n : ℕ) → ((x : A) → depth (spelled x) ≤ n) → (xs : List A) → items_depth (items_of (map spelled xs)) ≤ n
items_all spelled n within xs = items_within spelled (λ x. true) n (λ x h. within x) xs (all_pass xs)

numbers_depth : (ns : List ℕ) → items_depth (items_of (map number_data ns)) ≤ 0
numbers_depth ns = items_all number_data 0 (λ n. omega arith) ns

due_depth : (d : DueList) → depth (due_list_data d) ≤ 2
due_depth d = omega (arith, numbers_depth d.minutes)

backlog_depth : (b : GroupBacklog) → depth (group_backlog_data b) ≤ 3
backlog_depth b = omega (arith, items_all piece_data 1 (λ p. omega arith) b.backlog)

class_depth : (c : Class) → depth (class_data c) ≤ 5
class_depth c = omega (arith, items_all due_list_data 2 due_depth c.due, items_all group_backlog_data 3 backlog_depth c.backlog)

day_depth : (t : day.Tree) → depth (day_tree_data t) ≤ day.depth t + 2
day_depth (day.leaf class) = omega arith
day_depth (day.split part values inside outside) = omega (arith, numbers_depth values, day_depth inside, day_depth outside)

minute_depth : (t : minute.Tree) → depth (minute_tree_data t) ≤ rule.depth t + 3
minute_depth (minute.leaf entries) = omega (arith, items_all entry_data 1 (λ e. omega arith) entries)
minute_depth (minute.split at before after) = omega (arith, minute_depth before, minute_depth after)

stretch_depth : (s : StretchTree) → is_shallow s ≡ true → depth (stretch_data s) ≤ 28
stretch_depth s h = let deep = leb-true (rule.depth s.tree) 24 h in omega (arith, deep, numbers_depth s.of, minute_depth s.tree)

carry_class_depth : (c : Class) → depth (carry_class_data c) ≤ 3
carry_class_depth c = omega (arith, items_all carry_data 1 (λ b. omega arith) c.backlog)

pub certificate_depth : (c : Content) → day.depth c.kinds ≤ 24 → list_all is_shallow c.stretches ≡ true → depth (certificate_data c) ≤ max_depth
certificate_depth c d h = by_form (c.version == 3)
  where
    classes : items_depth (items_of (map class_data c.classes)) ≤ 5
    classes = items_all class_data 5 class_depth c.classes

    reaches : items_depth (items_of (map reach_data c.reach)) ≤ 1
    reaches = items_all reach_data 1 (λ r. omega arith) c.reach

    stretches : items_depth (items_of (map stretch_data c.stretches)) ≤ 28
    stretches = items_within stretch_data is_shallow 28 stretch_depth c.stretches h

    kinds : depth (day_tree_data c.kinds) ≤ 26
    kinds = omega (arith, d, day_depth c.kinds)

    carries : items_depth (items_of (map carry_class_data c.classes)) ≤ 3
    carries = items_all carry_class_data 3 carry_class_depth c.classes

    by_version : (b : Bool) → depth (if b then second_version_data c else first_version_data c) ≤ max_depth
    by_version true = omega (arith, classes, reaches, stretches, kinds)
    by_version false = omega (arith, classes, reaches, stretches, kinds)

    by_form : (b : Bool) → depth (if b then third_version_data c else listed_data c) ≤ max_depth
    by_form true = omega (arith, carries, reaches, kinds)
    by_form false = by_version (c.version == 2)

-- ---- no float

numbers_no_float : (ns : List ℕ) → has_float (list_data number_data ns) ≡ false
numbers_no_float ns = list_no_float number_data (λ n. refl) ns

due_no_float : (d : DueList) → has_float (due_list_data d) ≡ false
due_no_float d = pair_no_float (number_data d.job) (list_data number_data d.minutes) refl (numbers_no_float d.minutes)

pieces_no_float : (ps : List Piece) → has_float (list_data piece_data ps) ≡ false
pieces_no_float ps = list_no_float piece_data (λ p. pair_no_float (number_data p.minute) (number_data p.value) refl refl) ps

backlog_no_float : (b : GroupBacklog) → has_float (group_backlog_data b) ≡ false
backlog_no_float b = pair_no_float (number_data b.group) (list_data piece_data b.backlog) refl (pieces_no_float b.backlog)

class_no_float : (c : Class) → has_float (class_data c) ≡ false
class_no_float c = rw (list_no_float group_backlog_data backlog_no_float c.backlog, list_no_float due_list_data due_no_float c.due) refl

day_no_float : (t : day.Tree) → has_float (day_tree_data t) ≡ false
day_no_float (day.leaf class) = refl
day_no_float (day.split part values inside outside) = rw (numbers_no_float values, day_no_float outside, day_no_float inside) refl

entries_no_float : (es : List Entry) → has_float (list_data entry_data es) ≡ false
entries_no_float es = list_no_float entry_data (λ e. triple_no_float (number_data e.job) (number_data e.day_back) (number_data e.from) refl refl refl) es

minute_no_float : (t : minute.Tree) → has_float (minute_tree_data t) ≡ false
minute_no_float (minute.leaf entries) = rw (entries_no_float entries) refl
minute_no_float (minute.split at before after) = rw (minute_no_float after, minute_no_float before) refl

stretch_no_float : (s : StretchTree) → has_float (stretch_data s) ≡ false
stretch_no_float s = rw (numbers_no_float s.of, minute_no_float s.tree) refl

carry_no_float : (b : GroupBacklog) → has_float (carry_data b) ≡ false
carry_no_float b = pair_no_float (number_data b.group) (number_data (at b.backlog 0)) refl refl

carry_class_no_float : (c : Class) → has_float (carry_class_data c) ≡ false
carry_class_no_float c = rw (list_no_float carry_data carry_no_float c.backlog) refl

pub certificate_no_float : (c : Content) → has_float (certificate_data c) ≡ false
certificate_no_float c = by_form (c.version == 3)
  where
    classes : has_float (list_data class_data c.classes) ≡ false
    classes = list_no_float class_data class_no_float c.classes

    stretches : has_float (list_data stretch_data c.stretches) ≡ false
    stretches = list_no_float stretch_data stretch_no_float c.stretches

    reaches : has_float (list_data reach_data c.reach) ≡ false
    reaches = list_no_float reach_data (λ r. pair_no_float (number_data r.job) (number_data r.reach) refl refl) c.reach

    carries : has_float (list_data carry_class_data c.classes) ≡ false
    carries = list_no_float carry_class_data carry_class_no_float c.classes

    by_version : (b : Bool) → has_float (if b then second_version_data c else first_version_data c) ≡ false
    by_version true = rw (classes, day_no_float c.kinds, reaches, stretches) refl
    by_version false = rw (classes, day_no_float c.kinds, stretches, reaches) refl

    by_form : (b : Bool) → has_float (if b then third_version_data c else listed_data c) ≡ false
    by_form true = rw (carries, day_no_float c.kinds, reaches) refl
    by_form false = by_version (c.version == 2)
