use Rattle.std.proofs.Common.{◌≡◌, ℕ, ◌≤◌, List, [], ◌∷◌, Bool, true, false, ◌&&◌, nat_lt, nat_le, length, Option, Some, None, Result, Ok, Err, Vec, Global, refl, sym, subst, arith, inl, inr}
use Rattle.std.specs.Prelude.{IfOk, ◌⊎◌, ◌==◌, if◌then◌else◌}
use Rattle.std.specs.List.{list_all}
use Rattle.std.specs.Str.{IsUtf8}
use Rattle.std.proofs.lemmas.Bool.{ltb-true, leb-true, le-ltb}
use Rattle.serde_json.specs.Data.{depth}
use Rattle.serde_json.specs.Read.{read, max_depth}
use Rattle.cs_json.specs.Bytes.{json_of}
use Rattle.cs_json.specs.Shape.{list_as}
use Rattle.cs_json.proofs.Items.{json_back}
use Rattle.cs_daytree.specs.Tree as day
use Rattle.cs_daytree.specs.Possible.{all_numbers, splits_fit}
use Rattle.cs_claims.specs.declared.class.Class.{Class}
use Rattle.cs_windows.specs.declared.reach.JobReach.{JobReach}
use Rattle.cs_claims.specs.declared.fault.CertFault.{CertFault}
use Rattle.cs_claims.specs.Content.{Content, StretchTree}
use Rattle.cs_cert.specs.Denoted.{carried_said, certificate_by, content_in, content_said, listed_said, stretch_said}
use Rattle.cs_claims.specs.Rules.{class_fits, classes_shaped, fault_of, has_carries, has_days, has_entries, is_carries, lengths_fit, is_of_classes, is_shallow, is_split_well, most_days, most_reach, or_fault}
use Rattle.cs_cert.specs.Said.{carry_class_said, class_said, held, reach_said}
use Rattle.cs_cert.specs.TreeSaid.{day_tree_said}
use Rattle.cs_cert.specs.Written.{carry_class_data, certificate_data, class_data, day_tree_data, list_data, number_data, reach_data, stretch_data}
use Rattle.cs_cert.proofs.Back.{carry_class_back, carry_class_fits, class_back, list_back, numbers_back, reach_back}
use Rattle.cs_cert.proofs.Depths.{certificate_depth}
use Rattle.cs_claims.proofs.Keeping.{Rules, few_classes, list_parts, rules_hold, which_version}
use Rattle.cs_claims.proofs.Both.{and_both, both_and}
use Rattle.cs_cert.proofs.TreesBack.{day_back, minute_back}

abbrev stretch_fits : ℕ → ℕ → StretchTree → Bool
stretch_fits days count s = is_split_well s && has_entries days s && is_of_classes count s

all_fit : (days count : ℕ) (xs : List StretchTree) → list_all is_split_well xs ≡ true → list_all (has_entries days) xs ≡ true → list_all (is_of_classes count) xs ≡ true → list_all (stretch_fits days count) xs ≡ true
all_fit days count [] h k l = refl
all_fit days count (s ∷ xs) h k l =
    let p = and_both (is_split_well s) (list_all is_split_well xs) h in
    let q = and_both (has_entries days s) (list_all (has_entries days) xs) k in
    let r = and_both (is_of_classes count s) (list_all (is_of_classes count) xs) l in
    both_and _ _ (both_and _ _ (both_and _ _ p.0 q.0) r.0) (all_fit days count xs p.1 q.1 r.1)

numbers_below : (count : ℕ) → count ≤ 2562 → (ns : List ℕ) → list_all (λ n. nat_lt n count) ns ≡ true → list_as (held 4294967295) (list_data number_data ns) ≡ Ok ns
numbers_below count c ns h = numbers_back 4294967295 count (omega (arith, c)) ns h

stretch_back : (days count : ℕ) → days ≤ 255 → count ≤ 2562 → (s : StretchTree) → stretch_fits days count s ≡ true → stretch_said (stretch_data s) ≡ Ok s
stretch_back days count d c s h =
    let p = and_both (is_split_well s && has_entries days s) (is_of_classes count s) h in
    let q = and_both (is_split_well s) (has_entries days s) p.0 in
    rw (numbers_below count c s.of p.1, minute_back days d s.tree 0 1440 (omega arith) q.0 q.1) refl

pub record ReadsBack (classes : List Class) (kinds : day.Tree) (stretches : List StretchTree) (reach : List JobReach) : Type 0 where
  pub of_classes : list_as class_said (list_data class_data classes) ≡ Ok classes
  pub of_kinds : day_tree_said (day_tree_data kinds) ≡ Ok kinds
  pub of_stretches : list_as stretch_said (list_data stretch_data stretches) ≡ Ok stretches
  pub of_reach : list_as reach_said (list_data reach_data reach) ≡ Ok reach

abbrev with_version : ℕ → Content → Content
with_version version c = record c { version = version }

first_back : (c : Content) → ReadsBack c.classes c.kinds c.stretches c.reach → content_in (certificate_data (with_version 1 c)) ≡ Ok (with_version 1 c)
unfolding content_said listed_said
first_back c r = rw (r.of_classes, r.of_kinds, r.of_stretches, r.of_reach) refl

second_back : (c : Content) → ReadsBack c.classes c.kinds c.stretches c.reach → content_in (certificate_data (with_version 2 c)) ≡ Ok (with_version 2 c)
unfolding content_said listed_said
second_back c r = rw (r.of_classes, r.of_kinds, r.of_stretches, r.of_reach) refl

pub record CarriesBack (c : Content) : Type 0 where
  pub of_classes : list_as carry_class_said (list_data carry_class_data c.classes) ≡ Ok c.classes
  pub of_kinds : day_tree_said (day_tree_data c.kinds) ≡ Ok c.kinds
  pub no_stretches : c.stretches ≡ []
  pub of_reach : list_as reach_said (list_data reach_data c.reach) ≡ Ok c.reach

third_back : (c : Content) → CarriesBack c → content_in (certificate_data (with_version 3 c)) ≡ Ok (with_version 3 c)
unfolding content_said carried_said
third_back c r = rw (r.of_classes, r.of_kinds, r.no_stretches, r.of_reach) refl

few_days : (version : ℕ) → (version ≡ 1) ⊎ (version ≡ 2) → most_days version ≤ 255
few_days version (inl e) = rw e (omega arith)
few_days version (inr e) = rw e (omega arith)

short_reach : (version : ℕ) → most_reach version ≤ 65535
short_reach version = step (version == 1)
  where
    step : (b : Bool) → (if b then 1440 else 4320) ≤ 65535
    step true = omega arith
    step false = omega arith

few : (c : Content) → Rules c → length c.classes ≤ 2562
few c r = let count = leb-true _ _ r.count in omega (arith, count, few_classes c.version)

kinds_back : (c : Content) → Rules c → day_tree_said (day_tree_data c.kinds) ≡ Ok c.kinds
kinds_back c r =
    let splits = and_both (splits_fit all_numbers c.kinds) (list_all is_split_well c.stretches) r.splits in
    let classes = and_both _ _ r.classes in
    let first = and_both (nat_lt (day.greatest_class c.kinds) (length c.classes)) (list_all (is_of_classes (length c.classes)) c.stretches) classes.0 in
    day_back all_numbers (length c.classes) c.kinds (refl, refl, refl) (few c r) splits.0 (ltb-true _ _ first.0)

reaches_back : (c : Content) → Rules c → list_as reach_said (list_data reach_data c.reach) ≡ Ok c.reach
reaches_back c r =
    let lists = list_parts c r.lists in
    let reaches = and_both _ (list_all (λ r. nat_lt r.job 320 && nat_lt 0 r.reach && nat_le r.reach (most_reach c.version)) c.reach) lists.0 in
    list_back reach_said reach_data (λ r. nat_lt r.job 320 && nat_lt 0 r.reach && nat_le r.reach (most_reach c.version)) (reach_back (most_reach c.version) (short_reach c.version)) c.reach reaches.1

parts_back : (c : Content) → (c.version ≡ 1) ⊎ (c.version ≡ 2) → Rules c → ReadsBack c.classes c.kinds c.stretches c.reach
parts_back c v r =
    let splits = and_both (splits_fit all_numbers c.kinds) (list_all is_split_well c.stretches) r.splits in
    let classes = and_both _ _ r.classes in
    let first = and_both (nat_lt (day.greatest_class c.kinds) (length c.classes)) (list_all (is_of_classes (length c.classes)) c.stretches) classes.0 in
    let lists = list_parts c r.lists in
    record {
      of_classes = list_back class_said class_data class_fits class_back c.classes lists.1;
      of_kinds = kinds_back c r;
      of_stretches =
          list_back stretch_said stretch_data (stretch_fits (most_days c.version) (length c.classes)) (stretch_back (most_days c.version) (length c.classes) (few_days c.version v) (few c r)) c.stretches
          (all_fit (most_days c.version) (length c.classes) c.stretches splits.1 lists.2 first.1);
      of_reach = reaches_back c r;
    }

-- no stretch has two days and none
no_days : (stretches : List StretchTree) → list_all (has_days 0) stretches ≡ true → stretches ≡ []
no_days [] h = refl
no_days (s ∷ stretches) h =
    let d = and_both (nat_le 2 (length s.of)) (nat_le (length s.of) 0) (and_both (has_days 0 s) (list_all (has_days 0) stretches) h).0 in
    absurd (omega (arith, leb-true 2 (length s.of) d.0, leb-true (length s.of) 0 d.1))

all_class_carries : (xs : List Class) → list_all class_fits xs ≡ true → list_all is_carries xs ≡ true → list_all has_carries xs ≡ true → list_all carry_class_fits xs ≡ true
all_class_carries [] h k l = refl
all_class_carries (c ∷ xs) h k l =
    let p = and_both (class_fits c) (list_all class_fits xs) h in
    let q = and_both (is_carries c) (list_all is_carries xs) k in
    let r = and_both (has_carries c) (list_all has_carries xs) l in
    both_and _ _ (both_and _ _ (both_and _ _ p.0 q.0) r.0) (all_class_carries xs p.1 q.1 r.1)

carries_back : (c : Content) → c.version ≡ 3 → Rules c → CarriesBack c
carries_back c e r =
    let shapes = and_both (lengths_fit c) (classes_shaped c) r.shapes in
    let lists = list_parts c r.lists in
    let lengths : list_all (has_days 0) c.stretches ≡ true = rw e at shapes.0 in
    let carries : list_all is_carries c.classes ≡ true = rw e at shapes.1 in
    let some : list_all has_carries c.classes ≡ true = rw e at lists.3 in
    record {
      of_classes = list_back carry_class_said carry_class_data carry_class_fits carry_class_back c.classes (all_class_carries c.classes lists.1 carries some);
      of_kinds = kinds_back c r;
      no_stretches = no_days c.stretches lengths;
      of_reach = reaches_back c r;
    }

abbrev IsReadBack : Content → ℕ → Type 0
IsReadBack c version = content_in (certificate_data (with_version version c)) ≡ Ok (with_version version c)

content_back : (c : Content) → (c.version ≡ 1) ⊎ ((c.version ≡ 2) ⊎ (c.version ≡ 3)) → Rules c → content_in (certificate_data c) ≡ Ok c
content_back c (inl e) r = subst (IsReadBack c) (sym e) (first_back c (parts_back c (inl e) r))
content_back c (inr (inl e)) r = subst (IsReadBack c) (sym e) (second_back c (parts_back c (inr e) r))
content_back c (inr (inr e)) r = subst (IsReadBack c) (sym e) (third_back c (carries_back c e r))

not_too_long : (n : ℕ) → n ≤ 16777216 → nat_lt 16777216 n ≡ false
not_too_long n h = le-ltb 16777216 n h

unless_none : (c : Content) (o : Option CertFault) → o ≡ None → or_fault c o ≡ Ok c
unless_none c None h = refl
unless_none c (Some f) h = cc

certificate_back : (bytes : List ℕ) (c : Content) → fault_of c ≡ None → json_of bytes ≡ Some (certificate_data c) → length bytes ≤ 16777216 → certificate_by bytes ≡ Ok c
unfolding certificate_by
certificate_back bytes c h e short =
    let r = rules_hold c h in
    let v = which_version c.version _ _ refl refl r.version in
    rw (not_too_long (length bytes) short, e, content_back c v r) (unless_none c (fault_of c) h)

shallow : (c : Content) → fault_of c ≡ None → depth (certificate_data c) ≤ max_depth
shallow c h =
    let s = and_both (nat_le (day.depth c.kinds) 24) (list_all is_shallow c.stretches) (rules_hold c h).shallow in
    certificate_depth c (leb-true _ _ s.0) s.1

pub written_back : {E : Type 0} (r : Result (Vec ℕ Global) E) (c : Content) → fault_of c ≡ None → IfOk r (λ b. IsUtf8 b.items) → IfOk r (λ b. depth (certificate_data c) ≤ max_depth → read b.items ≡ Some (certificate_data c)) → IfOk r (λ b. length b.items ≤ 16777216 → certificate_by b.items ≡ Ok c)
written_back {E} (Ok b) c h u e = λ short. certificate_back b.items c h (json_back {E = E} (Ok b) (certificate_data c) u e (shallow c h)) short
written_back (Err f) c h u e = tt
