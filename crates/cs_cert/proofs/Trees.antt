use Rattle.std.proofs.Common.{◌≡◌, ◌<◌, ◌≤◌, arith, ℕ, List, Option, Some, None, Result, Ok, Err, refl, sym, Ordering, Less, Equal, Greater, Bool, true, false, option_map}
use Rattle.std.specs.Prelude.{is_some}
use Rattle.std.specs.Ordering.{nat_cmp, match_ordering}
use Rattle.std.specs.Cmp.Lexicographic.{slice_cmp}
use Rattle.serde_json.specs.Data.{Data, null, boolean, number, string, array, object, Members, no_members, member, depth, members_depth}
use Rattle.serde_json.specs.Find.{as_object, get, get_member}
use Rattle.cs_json.specs.Gives.{◌>>=◌}
use Rattle.cs_json.specs.Shape.{or_bad_shape, member_as}
use Rattle.cs_json.specs.declared.fault.JsonFault.{JsonFault}
use Rattle.cs_json.specs.declared.fault.JsonFault.TheVariants.{BadShape}
use Rattle.cs_cert.specs.TreeSaid.{TreeShape, tree_said, half_said, day_shape, day_tree_said, day_leaf_said, day_split_said, minute_shape, minute_tree_said, minute_leaf_said, minute_split_said}

at_ordering : {T : Type 0} (s : TreeShape T) (o : Ordering) (d : Data) (rest : Option Data) (t : Result T JsonFault) → t ≡ (or_bad_shape rest >>= tree_said s)
    → match_ordering o t (tree_said s d) t ≡ (or_bad_shape (match_ordering o rest (Some d) rest) >>= tree_said s)
at_ordering s Less d rest t e = e
at_ordering s Equal d rest t e = refl
at_ordering s Greater d rest t e = e

half-get : {T : Type 0} (s : TreeShape T) (k : List ℕ) (ms : Members) → half_said s k ms ≡ (or_bad_shape (get_member k ms) >>= tree_said s)
unfolding half_said
half-get s k no_members = refl
half-get s k (member l d ms) = at_ordering s (slice_cmp nat_cmp k l) d (get_member k ms) (half_said s k ms) (half-get s k ms)

leaf_here : {T : Type 0} (s : TreeShape T) (d : Data) → is_some (get s.leaf_name d) ≡ true → tree_said s d ≡ s.leaf_said d
unfolding tree_said
leaf_here s null h = cc
leaf_here s (boolean b) h = cc
leaf_here s (number n) h = cc
leaf_here s (string text) h = cc
leaf_here s (array ds) h = cc
leaf_here s (object ms) h = rw h refl

abbrev Refuses : {T : Type 0} → TreeShape T → Type 0
Refuses {T} s = (a b : Result T JsonFault) (d : Data) → as_object d ≡ None → s.split_said a b d ≡ Err BadShape

split_here : {T : Type 0} (s : TreeShape T) → Refuses s → (d : Data) → is_some (get s.leaf_name d) ≡ false
    → tree_said s d ≡ s.split_said (member_as (tree_said s) s.first_name d) (member_as (tree_said s) s.second_name d) d
unfolding tree_said
split_here s r null h = sym (r _ _ null refl)
split_here s r (boolean b) h = sym (r _ _ (boolean b) refl)
split_here s r (number n) h = sym (r _ _ (number n) refl)
split_here s r (string text) h = sym (r _ _ (string text) refl)
split_here s r (array ds) h = sym (r _ _ (array ds) refl)
split_here s r (object ms) h = rw (h, half-get s s.first_name ms, half-get s s.second_name ms) refl

day_refuses : Refuses day_shape
unfolding day_split_said
day_refuses a b d h = rw h refl

minute_refuses : Refuses minute_shape
unfolding minute_split_said
minute_refuses a b d h = rw h refl

pub day_leaf : (d : Data) → is_some (get (day_shape).leaf_name d) ≡ true → day_tree_said d ≡ day_leaf_said d
day_leaf d h = leaf_here day_shape d h

pub day_split : (d : Data) → is_some (get (day_shape).leaf_name d) ≡ false
    → day_tree_said d ≡ day_split_said (member_as day_tree_said (day_shape).first_name d) (member_as day_tree_said (day_shape).second_name d) d
day_split d h = split_here day_shape day_refuses d h

pub minute_leaf : (d : Data) → is_some (get (minute_shape).leaf_name d) ≡ true → minute_tree_said d ≡ minute_leaf_said d
minute_leaf d h = leaf_here minute_shape d h

pub minute_split : (d : Data) → is_some (get (minute_shape).leaf_name d) ≡ false
    → minute_tree_said d ≡ minute_split_said (member_as minute_tree_said (minute_shape).first_name d) (member_as minute_tree_said (minute_shape).second_name d) d
minute_split d h = split_here minute_shape minute_refuses d h

-- ---- what is found is deeper

found_ordering : (o : Ordering) (a b : Option Data) (e : Data) (n : ℕ) → ((x : Data) → a ≡ Some x → depth x ≤ n) → ((x : Data) → b ≡ Some x → depth x ≤ n) → match_ordering o a b a ≡ Some e → depth e ≤ n
found_ordering Less a b e n p q h = p e h
found_ordering Equal a b e n p q h = q e h
found_ordering Greater a b e n p q h = p e h

member_depth : (k : List ℕ) (ms : Members) (e : Data) → get_member k ms ≡ Some e → depth e ≤ members_depth ms
member_depth k no_members e h = cc
member_depth k (member l d ms) e h =
    found_ordering (slice_cmp nat_cmp k l) (get_member k ms) (Some d) e (members_depth (member l d ms))
    (λ x g. omega (arith, member_depth k ms x g)) (λ x g. let same : d ≡ x = cc in rw (← same) (omega arith)) h

get_depth : (k : List ℕ) (d e : Data) → get k d ≡ Some e → depth e < depth d
get_depth k null e h = cc
get_depth k (boolean b) e h = cc
get_depth k (number n) e h = cc
get_depth k (string s) e h = cc
get_depth k (array ds) e h = cc
get_depth k (object ms) e h = omega (arith, member_depth k ms e h)

shaped_is : (o : Option Data) (e : Data) → or_bad_shape o ≡ Ok e → o ≡ Some e
shaped_is None e h = cc
shaped_is (Some x) e h = cc

pub found_depth : (k : List ℕ) (d e : Data) → or_bad_shape (get k d) ≡ Ok e → depth e < depth d
found_depth k d e h = get_depth k d e (shaped_is (get k d) e h)

pub some_seen : {A B : Type 0} (f : A → B) (r : Option A) (o : Option B) (b : Bool) → option_map f r ≡ o → is_some r ≡ b → is_some o ≡ b
some_seen f None o b e h = rw (← e) h
some_seen f (Some x) o b e h = rw (← e) h
