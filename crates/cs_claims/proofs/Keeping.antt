-- What the rules give to those who use a certificate.
use Rattle.std.proofs.Common.{◌≡◌, ℕ, ◌<◌, ◌≤◌, max, Bool, true, false, ◌&&◌, ◌||◌, nat_lt, nat_le, List, [], ◌∷◌, length, None, refl, arith, inl, inr, All}
use Rattle.std.specs.Prelude.{◌==◌, ◌⊎◌, if◌then◌else◌}
use Rattle.std.specs.List.{list_all}
use Rattle.std.proofs.lemmas.Bool.{ltb-true, leb-true, eqb-true}
use Rattle.std.proofs.lemmas.List.Sums.{AllPass-from_list_all}
use Rattle.cs_civil.specs.Calendar.{Kind}
use Rattle.cs_daytree.specs.Tree as day
use Rattle.cs_daytree.specs.Possible.{all_numbers, splits_fit}
use Rattle.cs_claims.specs.declared.fault.CertFault.{CertFault}
use Rattle.cs_claims.specs.Content.{Content, StretchTree}
use Rattle.cs_claims.specs.Rules.{carries_fit, class_fits, classes_shaped, classes_there, fault_of, first_fault, has_days, has_entries, is_of_classes, is_split_well, is_version, leaves_short, lengths_fit, lists_fit, most_classes, most_days, most_reach, reach_fits, shapes_fit, trees_shallow, trees_split_well, unless}
use Rattle.cs_claims.specs.Kept.{IsSound, Keeps}
use Rattle.cs_claims.proofs.Splits.{inside_so}
use Rattle.cs_claims.proofs.Both.{and_both}

pub record Rules (c : Content) : Type 0 where
  pub version : is_version c.version ≡ true
  pub shapes : shapes_fit c ≡ true
  pub shallow : trees_shallow c ≡ true
  pub splits : trees_split_well c ≡ true
  pub classes : classes_there c ≡ true
  pub lists : lists_fit c ≡ true
  pub count : nat_le (length c.classes) (most_classes c.version) ≡ true
  pub short : leaves_short c ≡ true

all_hold : (a b c d e f g h : Bool) (s t u v w x y z : CertFault)
    → first_fault (unless a s ∷ unless b t ∷ unless c u ∷ unless d v ∷ unless e w ∷ unless f x ∷ unless g y ∷ unless h z ∷ []) ≡ None
    → (a ≡ true) × (b ≡ true) × (c ≡ true) × (d ≡ true) × (e ≡ true) × (f ≡ true) × (g ≡ true) × (h ≡ true)
all_hold true true true true true true true true s t u v w x y z k = (refl, refl, refl, refl, refl, refl, refl, refl)
all_hold true true true true true true true false s t u v w x y z k = cc
all_hold true true true true true true false h s t u v w x y z k = cc
all_hold true true true true true false g h s t u v w x y z k = cc
all_hold true true true true false f g h s t u v w x y z k = cc
all_hold true true true false e f g h s t u v w x y z k = cc
all_hold true true false d e f g h s t u v w x y z k = cc
all_hold true false c d e f g h s t u v w x y z k = cc
all_hold false b c d e f g h s t u v w x y z k = cc

pub rules_hold : (c : Content) → fault_of c ≡ None → Rules c
unfolding fault_of
rules_hold c h =
    let t = all_hold (is_version c.version) (shapes_fit c) (trees_shallow c) (trees_split_well c) (classes_there c) (lists_fit c) (nat_le (length c.classes) (most_classes c.version)) (leaves_short c) _ _ _ _ _ _ _ _ h in
    record { version = t.0; shapes = t.1; shallow = t.2; splits = t.3; classes = t.4; lists = t.5; count = t.6; short = t.7 }

pub which_version : (v : ℕ) (a b : Bool) → (v == 1) ≡ a → (v == 2) ≡ b → (a || (b || (v == 3))) ≡ true → (v ≡ 1) ⊎ ((v ≡ 2) ⊎ (v ≡ 3))
which_version v true b e f h = inl (eqb-true v 1 e)
which_version v false true e f h = inr (inl (eqb-true v 2 f))
which_version v false false e f h = inr (inr (eqb-true v 3 h))

pub few_classes : (v : ℕ) → most_classes v ≤ 2562
few_classes v = step (v == 3)
  where
    step : (b : Bool) → (if b then 2562 else 512) ≤ 2562
    step true = omega arith
    step false = omega arith

pub list_parts : (c : Content) → lists_fit c ≡ true → (reach_fits (most_reach c.version) c.reach ≡ true) × (list_all class_fits c.classes ≡ true) × (list_all (has_entries (most_days c.version)) c.stretches ≡ true) × (carries_fit c ≡ true)
list_parts c h =
    let all = and_both (reach_fits (most_reach c.version) c.reach && list_all class_fits c.classes && list_all (has_entries (most_days c.version)) c.stretches) (carries_fit c) h in
    let lists = and_both (reach_fits (most_reach c.version) c.reach && list_all class_fits c.classes) (list_all (has_entries (most_days c.version)) c.stretches) all.0 in
    let inner = and_both (reach_fits (most_reach c.version) c.reach) (list_all class_fits c.classes) lists.0 in
    (inner.0, inner.1, lists.1, all.1)

class_within : (t : day.Tree) (k : Kind) → day.class_in t k ≤ day.greatest_class t
class_within (day.leaf class) k = omega arith
class_within (day.split part values inside outside) k =
    by_case (day.has values (day.number_of part k)) _ _ _ _ (class_within inside k) (class_within outside k)
  where
    by_case : (b : Bool) (x y m n : ℕ) → x ≤ m → y ≤ n → (if b then x else y) ≤ max m n
    by_case true x y m n p q = omega (arith, p)
    by_case false x y m n p q = omega (arith, q)

below : (n : ℕ) (classes : List ℕ) → list_all (λ class. nat_lt class n) classes ≡ true → All (λ class. class < n) classes
below n classes h = λ k d within. ltb-true _ n (AllPass-from_list_all (λ class. nat_lt class n) classes h k d within)

sound : (version count : ℕ) (s : StretchTree) → has_days (most_days version) s ≡ true → is_split_well s ≡ true → is_of_classes count s ≡ true → has_entries (most_days version) s ≡ true → IsSound version count s
sound version count s d p q e =
    let days = and_both _ _ d in
    record { days = (leb-true _ _ days.0, leb-true _ _ days.1); classes = below count s.of q; splits = inside_so s.tree 0 1440 p; entries = e }

by_rules : (c : Content) → Rules c → Keeps c
by_rules c r =
    let splits = and_both (splits_fit all_numbers c.kinds) (list_all is_split_well c.stretches) r.splits in
    let classes = and_both _ _ r.classes in
    let first = and_both (nat_lt (day.greatest_class c.kinds) (length c.classes)) (list_all (is_of_classes (length c.classes)) c.stretches) classes.0 in
    let lengths = (and_both (lengths_fit c) (classes_shaped c) r.shapes).0 in
    let lists = list_parts c r.lists in
    let greatest : day.greatest_class c.kinds < length c.classes = ltb-true _ _ first.0 in
    record {
      version = which_version c.version (c.version == 1) (c.version == 2) refl refl r.version;
      count = (omega arith, leb-true _ _ r.count);
      class_of_kind = λ kind. let w = class_within c.kinds kind in omega arith;
      classes = AllPass-from_list_all class_fits c.classes lists.1;
      stretches = λ k d within.
          sound c.version (length c.classes) _ (AllPass-from_list_all _ c.stretches lengths k d within) (AllPass-from_list_all _ c.stretches splits.1 k d within)
          (AllPass-from_list_all _ c.stretches first.1 k d within) (AllPass-from_list_all _ c.stretches lists.2 k d within);
      reach = lists.0;
    }

pub keeps : (c : Content) → fault_of c ≡ None → Keeps c
keeps c h = by_rules c (rules_hold c h)
