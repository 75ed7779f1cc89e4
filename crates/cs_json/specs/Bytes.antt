-- The JSON value of bytes, and what is read from it.
use Rattle.std.specs.Prelude.{List, [], ◌∷◌, ℕ, Option, None, if◌then◌else◌, Bool, true, ◌&&◌}
use Rattle.std.specs.Str.{is_utf8}
use Rattle.serde_json.specs.Data.{Data, Items, no_items, item, Members, no_members, member}
use Rattle.serde_json.specs.Read.{read}

-- None if the bytes aren't UTF-8, or serde_json reads no JSON text in them
unfoldable pub json_of : List ℕ → Option Data
json_of bytes = if is_utf8 bytes then read bytes else None

abbrev pub list_of : Items → List Data
list_of no_items = []
list_of (item d ds) = d ∷ list_of ds

-- each member's name passes the test
abbrev pub has_only : (List ℕ → Bool) → Members → Bool
has_only named no_members = true
has_only named (member k d ms) = named k && has_only named ms
