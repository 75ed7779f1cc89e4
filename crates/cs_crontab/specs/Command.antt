-- The command and its standard input: `%` parts them, and the lines of the input (crontab(5)).
use Rattle.std.specs.Prelude.{◌≡◌, ◌≢◌, ℕ, ◌==◌, ◌&&◌, if◌then◌else◌, List, [], ◌∷◌, ◌++◌, map, flat_map, Option, Some, None}
use Rattle.std.specs.List.{join_with_byte, onto_first}

-- the text with a backslash before each `%`
abbrev pub escaped : List ℕ → List ℕ
escaped text = flat_map (λ b. if b == 37 then 92 ∷ 37 ∷ [] else b ∷ []) text

abbrev pub EndsPlain : List ℕ → Type 0
EndsPlain text = (front : List ℕ) → text ≢ front ++ (92 ∷ [])

-- only the last text may end with a backslash
abbrev pub ArePlain : List (List ℕ) → Type 0
ArePlain [] = Unit {0}
ArePlain (text ∷ []) = Unit {0}
ArePlain (text ∷ other ∷ texts) = EndsPlain text × ArePlain (other ∷ texts)

-- no input, or its lines with newlines between them
abbrev pub input_of : List (List ℕ) → Option (List ℕ)
input_of [] = None
input_of (line ∷ lines) = Some (join_with_byte 10 (line ∷ lines))

-- the text is the command and the lines of the input, with `%` between them; a `%` in them is
-- escaped
abbrev pub AreParts : List ℕ → List ℕ × Option (List ℕ) → Type 0
AreParts text parts = (lines : List (List ℕ))
    × (text ≡ join_with_byte 37 (map escaped (parts.0 ∷ lines))) × ArePlain (parts.0 ∷ lines)
    × (parts.1 ≡ input_of lines)

-- the texts between the `%` that no backslash escapes; `\%` in them is `%`
unfoldable pub pieces_of : List ℕ → List (List ℕ)
pieces_of [] = [] ∷ []
pieces_of (b ∷ []) = if b == 37 then [] ∷ [] ∷ [] else (b ∷ []) ∷ []
pieces_of (b ∷ c ∷ cs) =
    if b == 37 then [] ∷ pieces_of (c ∷ cs)
    else if b == 92 && c == 37 then onto_first 37 (pieces_of cs)
    else onto_first b (pieces_of (c ∷ cs))

-- the pieces after a `%`, or after none
abbrev pub pieces_behind : Option (List ℕ) → List (List ℕ)
pieces_behind None = []
pieces_behind (Some text) = pieces_of text

abbrev pub parts_from : List (List ℕ) → List ℕ × Option (List ℕ)
parts_from [] = ([], None)
parts_from (piece ∷ pieces) = (piece, input_of pieces)
