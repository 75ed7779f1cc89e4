-- What is known of made-up files.
use Rattle.std.specs.Prelude.{ℕ, List, Option, Some, None, if◌then◌else◌}
use Rattle.std.specs.Str.{bytes_eq}

-- the bytes are known for this path only
abbrev pub known_at : List ℕ → List ℕ → List ℕ → Option (List ℕ)
known_at name bytes path = if bytes_eq path name then Some bytes else None
