-- The value of a tree in JSON, or BadShape. An object with a member of one name is a leaf, any
-- other a split, whose halves have two other names.
use Rattle.std.specs.Prelude.{ℕ, List, [], ◌∷◌, bytes_eq, Option, Some, None, is_some, option_and_then, Result, Ok, Err, codes, if◌then◌else◌}
use Rattle.std.specs.Ordering.{nat_cmp, match_ordering}
use Rattle.std.specs.Cmp.Lexicographic.{slice_cmp}
use Rattle.serde_json.specs.Data.{Data, null, boolean, number, string, array, object, Members, no_members, member}
use Rattle.serde_json.specs.Find.{as_str, get_member}
use Rattle.cs_json.specs.Gives.{◌>>=◌}
use Rattle.cs_json.specs.Shape.{is_among, list_as, member_as, object_with, or_bad_shape}
use Rattle.cs_json.specs.declared.fault.JsonFault.{JsonFault}
use Rattle.cs_json.specs.declared.fault.JsonFault.TheVariants.{BadShape}
use Rattle.cs_daytree.specs.declared.tree.KindPart.{KindPart}
use Rattle.cs_daytree.specs.declared.tree.KindPart.TheVariants.{Month, Day, Weekday}
use Rattle.cs_daytree.specs.Tree as day
use Rattle.cs_windows.specs.Tree as minute
use Rattle.cs_cert.specs.Said.{entry_said, held}

-- the form of a kind of tree in JSON: the name of a leaf's member, those of a split's halves, the
-- value of a leaf, and the value of a split, given those of its halves
pub record TreeShape (T : Type 0) : Type 0 where
  pub leaf_name : List ℕ
  pub first_name : List ℕ
  pub second_name : List ℕ
  pub leaf_said : Data → Result T JsonFault
  pub split_said : Result T JsonFault → Result T JsonFault → Data → Result T JsonFault

unfoldable mutual
  pub tree_said : {T : Type 0} → TreeShape T → Data → Result T JsonFault
  tree_said s null = Err BadShape
  tree_said s (boolean b) = Err BadShape
  tree_said s (number n) = Err BadShape
  tree_said s (string text) = Err BadShape
  tree_said s (array ds) = Err BadShape
  tree_said s (object ms) =
      if is_some (get_member s.leaf_name ms) then s.leaf_said (object ms)
      else s.split_said (half_said s s.first_name ms) (half_said s s.second_name ms) (object ms)

  -- the tree that is the value of a name
  pub half_said : {T : Type 0} → TreeShape T → List ℕ → Members → Result T JsonFault
  half_said s name no_members = Err BadShape
  half_said s name (member k d ms) = match_ordering (slice_cmp nat_cmp name k) (half_said s name ms)
      (tree_said s d) (half_said s name ms)

-- ---- day trees

abbrev pub part_named : List ℕ → Option KindPart
part_named text =
    if bytes_eq text (codes "month") then Some Month
    else (if bytes_eq text (codes "day") then Some Day
    else (if bytes_eq text (codes "weekday") then Some Weekday else None))

abbrev pub part_said : Data → Result KindPart JsonFault
part_said d = or_bad_shape (option_and_then part_named (as_str d))

-- `{"class": n}`
unfoldable pub day_leaf_said : Data → Result day.Tree JsonFault
day_leaf_said d = do
  o ← object_with (is_among (codes "class" ∷ [])) d
  class ← member_as (held 4294967295) (codes "class") d
  Ok (day.leaf class)

-- `{"split": part, "in": [numbers], "yes": tree, "no": tree}`
unfoldable pub day_split_said : Result day.Tree JsonFault → Result day.Tree JsonFault → Data
    → Result day.Tree JsonFault
day_split_said yes_tree no_tree d = do
  o ← object_with (is_among (codes "in" ∷ codes "no" ∷ codes "split" ∷ codes "yes" ∷ [])) d
  part ← member_as part_said (codes "split") d
  values ← member_as (list_as (held 255)) (codes "in") d
  inside ← yes_tree
  outside ← no_tree
  Ok (day.split part values inside outside)

abbrev pub day_shape : TreeShape day.Tree
day_shape = record {
  leaf_name = codes "class";
  first_name = codes "yes";
  second_name = codes "no";
  leaf_said = day_leaf_said;
  split_said = day_split_said;
}

abbrev pub day_tree_said : Data → Result day.Tree JsonFault
day_tree_said d = tree_said day_shape d

-- ---- minute trees

-- `{"list": [entries]}`
unfoldable pub minute_leaf_said : Data → Result minute.Tree JsonFault
minute_leaf_said d = do
  o ← object_with (is_among (codes "list" ∷ [])) d
  entries ← member_as (list_as entry_said) (codes "list") d
  Ok (minute.leaf entries)

-- `{"at": minute, "before": tree, "after": tree}`
unfoldable pub minute_split_said : Result minute.Tree JsonFault → Result minute.Tree JsonFault
    → Data → Result minute.Tree JsonFault
minute_split_said before_tree after_tree d = do
  o ← object_with (is_among (codes "after" ∷ codes "at" ∷ codes "before" ∷ [])) d
  at ← member_as (held 65535) (codes "at") d
  before ← before_tree
  after ← after_tree
  Ok (minute.split at before after)

abbrev pub minute_shape : TreeShape minute.Tree
minute_shape = record {
  leaf_name = codes "list";
  first_name = codes "before";
  second_name = codes "after";
  leaf_said = minute_leaf_said;
  split_said = minute_split_said;
}

abbrev pub minute_tree_said : Data → Result minute.Tree JsonFault
minute_tree_said d = tree_said minute_shape d
