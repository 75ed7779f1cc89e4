-- What is read of files, by their paths.
use Rattle.std.specs.Prelude.{◌≡◌, ◌≢◌, ◌<◌, ◌≤◌, ◌⊎◌, ℕ, List, [], ◌∷◌, ◌++◌, Option, Some, take}
use Rattle.std.specs.Prelude.{Bool, IfSome, length, option_map, replicate}
use Rattle.cs_io.specs.declared.inputs.TheConstants.{MOST_READS}

-- the n bytes at the front of buf are the next ones of this path: none only at its end, after which
-- the path begins again; what is left of every other path stays
pub record IsNextOf (path : List ℕ) (whole left-old left-new : List ℕ → Option (List ℕ)) (n : ℕ)
    (buf : List ℕ) : Type 0 where
  pub bytes : IfSome (left-old path)
      (λ xs. (ys : List ℕ) × (xs ≡ take n buf ++ ys) × (n ≢ 0 → left-new path ≡ Some ys))
  pub end : n ≡ 0 → 0 < length buf
      → IfSome (left-old path) (λ xs. (xs ≡ []) × (left-new path ≡ whole path))
  pub others : (q : List ℕ) → q ≢ path → left-new q ≡ left-old q

-- bs is a text, or both are longer than a limit
abbrev pub IsUpTo : ℕ → List ℕ → List ℕ → Type 0
IsUpTo limit text bs = (bs ≡ text) ⊎ ((limit < length bs) × (limit < length text))

-- bs is what was left of this path, where that is known, or both are longer than a limit
abbrev pub Gives : ℕ → List ℕ → (List ℕ → Option (List ℕ)) → List ℕ → Type 0
Gives limit path left bs = IfSome (left path) (λ text. IsUpTo limit text bs)

-- each path whose bytes are known is to be read from its front
abbrev pub IsFresh : (List ℕ → Option (List ℕ)) → (List ℕ → Option (List ℕ)) → Type 0
IsFresh whole left = (path : List ℕ) → IfSome (whole path) (λ text. left path ≡ Some text)

-- the paths of all reads so far, the last read first, where they are known
abbrev pub Reads : Type 0
Reads = Option (List (List ℕ))

-- this many reads more, each of this path
abbrev pub IsReadOn : List ℕ → ℕ → Reads → Reads → Type 0
IsReadOn path n old new = new ≡ option_map (λ paths. replicate n path ++ paths) old

-- no other path was read
abbrev pub IsReadAlone : List ℕ → Reads → Reads → Type 0
IsReadAlone path old new = (n : ℕ) × IsReadOn path n old new

-- these paths alone were read, one after the other
abbrev pub AreReadInTurn : List (List ℕ) → Reads → Reads → Type 0
AreReadInTurn [] old new = new ≡ old
AreReadInTurn (path ∷ paths) old new =
    (between : Reads) × IsReadAlone path old between × AreReadInTurn paths between new

-- as many reads as a path may take, each of this one
pub record IsReadOut (path : List ℕ) (old new : Reads) : Type 0 where
  pub count : ℕ
  pub most : MOST_READS ≤ count
  pub reads : IsReadOn path count old new

-- what is left of this path, if known, is too long for its most reads of a byte each
abbrev pub IsTooLong : List ℕ → (List ℕ → Option (List ℕ)) → Type 0
IsTooLong path left = IfSome (left path) (λ text. MOST_READS ≤ length text)

-- whether a read of a path has failed
abbrev pub Failed : Type 0
Failed = List ℕ → Bool
