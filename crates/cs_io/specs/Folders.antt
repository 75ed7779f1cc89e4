-- What is known of folders.
use Rattle.std.specs.Prelude.{◌==◌, ◌&&◌, ℕ, Bool, List, [], ◌∷◌, Option, None, length, not}
use Rattle.std.specs.Ordering.{nat_cmp}
use Rattle.std.specs.Cmp.Lexicographic.{slice_cmp}
use Rattle.std.specs.List.{filter, slice_split}
use Rattle.std.specs.List.Sorted.{IsSorted}
use Rattle.std.specs.Str.{bytes_eq}
use Rattle.cs_io.specs.declared.folders.FileKind.{FileKind}

-- what is known of folders: what each path leads to, and the names in each folder, `Some None`
-- where nothing is there
pub record Tree : Type 0 where
  pub kind : List ℕ → Option (Option FileKind)
  pub names : List ℕ → Option (Option (List (List ℕ)))

abbrev pub unknown : Tree
unknown = record { kind = λ path. None; names = λ path. None }

-- neither of the folder itself, nor of the one above it
abbrev pub is_listed : List ℕ → Bool
is_listed name =
    not (length name == 0) && (not (bytes_eq name (46 ∷ [])) && not (bytes_eq name (46 ∷ 46 ∷ [])))

-- the names in a list, in which a NUL ends each
abbrev pub names_in : List ℕ → List (List ℕ)
names_in list = filter is_listed (slice_split (λ byte. byte == 0) list)

-- no name is below the one before it, byte by byte
abbrev pub IsInByteOrder : List (List ℕ) → Type 0
IsInByteOrder = IsSorted (slice_cmp nat_cmp)
