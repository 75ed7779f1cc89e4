-- A group that isn't in a set of names.
use Rattle.std.specs.Prelude.{List, ℕ, Option, None, Some, Bool, false, not, bytes_eq}
use Rattle.std.specs.Borrow.{Bor}
use Rattle.std.specs.List.{list_any}

abbrev pub is_unnamed : List (Bor (List ℕ)) → Option (List ℕ) → Bool
is_unnamed names None = false
is_unnamed names (Some name) = not (list_any (λ k. bytes_eq name k.now) names)
