-- Where no member stands twice, the library finds none either.
use Rattle.std.proofs.Common.{◌≡◌, ◌≢◌, ℕ, ◌+◌, List, ◌∷◌, ◌++◌, Option, Some, None, Bool, true, false, refl, sym, ◌∙◌, bytes_eq}
use Rattle.std.specs.List.{list_any}
use Rattle.std.proofs.lemmas.List.Elements.{All-head, All-tail}
use Rattle.std.proofs.lemmas.Slice.Eq.{bytes_eq-Decides}
use Rattle.std.specs.Prelude.{All, AllPairs, IsUtf8, slice_index_or, []}
use Rattle.json.specs.Json.{Json, null, boolean, number, string, array, object, Items, no_items, item, Members, no_members, member, document}
use Rattle.json.specs.Strict.{keys, AreDistinct, HasUniqueKeys, ItemsHaveUniqueKeys, MembersHaveUniqueKeys}
use Rattle.cs_decl.specs.Faults.{first_again, first_twice}
use Rattle.cs_decl.specs.Doubled.{first_repeated, or_else, doubled, doubled_in_items, doubled_in_members, doubled_member}
use Rattle.cs_decl.proofs.Repeats.{in_text}
use Rattle.cs_decl.proofs.Rests.{first_is_least, later_pairs}
use Rattle.cs_decl.proofs.Texts.{any_push}
use Rattle.cs_decl.proofs.Validity.{mapped_none}
use Rattle.cs_decl.proofs.Wholes.{none_again}

neither : (one other : Option (List ℕ)) → or_else one other ≡ None → (one ≡ None) × (other ≡ None)
neither None other e = (refl, e)
neither (Some name) other e = absurd cc

all_new : (names : List (List ℕ)) → first_repeated names ≡ None → AreDistinct names
all_new names e = (none_again [] 0 names (mapped_none (λ i. slice_index_or names i []) (first_twice bytes_eq names) e)).1

mutual
  unique : (j : Json) → doubled j ≡ None → HasUniqueKeys j
  unique null e = tt
  unique (boolean b) e = tt
  unique (number s) e = tt
  unique (string s) e = tt
  unique (array js) e = unique_items js e
  unique (object ms) e = let p = neither (first_repeated (keys ms)) (doubled_in_members ms) e in (all_new (keys ms) p.0, unique_members ms p.1)

  unique_items : (js : Items) → doubled_in_items js ≡ None → ItemsHaveUniqueKeys js
  unique_items no_items e = tt
  unique_items (item j js) e = let p = neither (doubled j) (doubled_in_items js) e in (unique j p.0, unique_items js p.1)

  unique_members : (ms : Members) → doubled_in_members ms ≡ None → MembersHaveUniqueKeys ms
  unique_members no_members e = tt
  unique_members (member k j ms) e = let p = neither (doubled j) (doubled_in_members ms) e in (unique j p.0, unique_members ms p.1)

differ : (a b : List ℕ) → b ≢ a → bytes_eq a b ≡ false
differ a b other = by_test (bytes_eq a b) refl
  where
    by_test : (t : Bool) → bytes_eq a b ≡ t → bytes_eq a b ≡ false
    by_test true e = absurd (other (sym ((bytes_eq-Decides a b).0 e)))
    by_test false e = e

still_new : (before : List (List ℕ)) (x y : List ℕ) → list_any (bytes_eq y) before ≡ false → x ≢ y → list_any (bytes_eq y) (before ++ x ∷ []) ≡ false
still_new before x y new other = rw (any_push (bytes_eq y) before x, new, differ y x other) refl

none_comes_again : (before : List (List ℕ)) (i : ℕ) (xs : List (List ℕ)) → All (λ x. list_any (bytes_eq x) before ≡ false) xs → AllPairs (λ x y. x ≢ y) xs → first_again bytes_eq before i xs ≡ None
none_comes_again before i [] new pairs = refl
none_comes_again before i (x ∷ xs) new pairs =
    let later = All-tail (λ y. list_any (bytes_eq y) before ≡ false) x xs new in
    let others = first_is_least (λ y z. y ≢ z) x xs pairs in
    let still : All (λ y. list_any (bytes_eq y) (before ++ x ∷ []) ≡ false) xs = λ k d low. still_new before x _ (later k d low) (others k d low) in
    rw (All-head (λ y. list_any (bytes_eq y) before ≡ false) x xs new) (none_comes_again (before ++ x ∷ []) (i + 1) xs still (later_pairs (λ y z. y ≢ z) x xs pairs))

none_repeated : (names : List (List ℕ)) → AreDistinct names → first_repeated names ≡ None
none_repeated names pairs = rw (none_comes_again [] 0 names (λ k d low. refl) pairs) refl

mutual
  none_in : (j : Json) → HasUniqueKeys j → doubled j ≡ None
  none_in null h = refl
  none_in (boolean b) h = refl
  none_in (number s) h = refl
  none_in (string s) h = refl
  none_in (array js) h = none_in_items js h
  none_in (object ms) h = rw (none_repeated (keys ms) h.0) (none_in_members ms h.1)

  none_in_items : (js : Items) → ItemsHaveUniqueKeys js → doubled_in_items js ≡ None
  none_in_items no_items h = refl
  none_in_items (item j js) h = rw (none_in j h.0) (none_in_items js h.1)

  none_in_members : (ms : Members) → MembersHaveUniqueKeys ms → doubled_in_members ms ≡ None
  none_in_members no_members h = refl
  none_in_members (member k j ms) h = rw (none_in j h.0) (none_in_members ms h.1)

pub none_missed : (text : List ℕ) (j : Json) → IsUtf8 text → document text ≡ Some j → doubled_member text ≡ None → HasUniqueKeys j
none_missed text j utf8 is none = unique j (sym (in_text text j utf8 is) ∙ none)

pub none_made_up : (text : List ℕ) (j : Json) → IsUtf8 text → document text ≡ Some j → HasUniqueKeys j → doubled_member text ≡ None
none_made_up text j utf8 is h = in_text text j utf8 is ∙ none_in j h
