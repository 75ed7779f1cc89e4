-- Which member of a JSON text stands twice in one object.
use Rattle.std.specs.Prelude.{ℕ, List, Option, None, Some, option_map, option_and_then, bytes_eq}
use Rattle.std.specs.Prelude.{if◌then◌else◌, slice_index_or, []}
use Rattle.std.specs.Str.{is_utf8}
use Rattle.json.specs.Json.{Json, null, boolean, number, string, array, object, document}
use Rattle.json.specs.Json.{Items, no_items, item, Members, no_members, member}
use Rattle.json.specs.Strict.{keys}
use Rattle.cs_decl.specs.Faults.{first_twice}

-- the first name that an earlier one repeats
abbrev pub first_repeated : List (List ℕ) → Option (List ℕ)
first_repeated names = option_map (λ i. slice_index_or names i []) (first_twice bytes_eq names)

abbrev pub or_else : Option (List ℕ) → Option (List ℕ) → Option (List ℕ)
or_else (Some name) other = Some name
or_else None other = other

-- an object's own names come before those in its values, and values in their order
abbrev mutual
  pub doubled : Json → Option (List ℕ)
  doubled null = None
  doubled (boolean b) = None
  doubled (number s) = None
  doubled (string s) = None
  doubled (array js) = doubled_in_items js
  doubled (object ms) = or_else (first_repeated (keys ms)) (doubled_in_members ms)

  pub doubled_in_items : Items → Option (List ℕ)
  doubled_in_items no_items = None
  doubled_in_items (item j js) = or_else (doubled j) (doubled_in_items js)

  pub doubled_in_members : Members → Option (List ℕ)
  doubled_in_members no_members = None
  doubled_in_members (member k j ms) = or_else (doubled j) (doubled_in_members ms)

unfoldable pub doubled_member : List ℕ → Option (List ℕ)
doubled_member text =
    if is_utf8 text then option_and_then doubled (document text) else None
