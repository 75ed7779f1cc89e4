-- The name and the value of a setting, read from left to right.
use Rattle.std.specs.Prelude.{ℕ, Bool, not, ◌==◌, if◌then◌else◌, List, [], ◌∷◌, length, Option, Some, None}
use Rattle.std.specs.List.{list_all}
use Rattle.cs_table.specs.Text.{front, after, is_blank}
use Rattle.cs_table.specs.Setting.{is_quote, is_name_byte}

infixl 10 ◌>>=◌
abbrev pub ◌>>=◌ : {A B : Type 0} → Option A → (A → Option B) → Option B
(Some x) >>= f = f x
None >>= f = None

-- the text without the blanks at its end
unfoldable pub trimmed : List ℕ → List ℕ
trimmed [] = []
trimmed (b ∷ bs) = if list_all is_blank (b ∷ bs) then [] else b ∷ trimmed bs

abbrev pub is_other : ℕ → ℕ → Bool
is_other quote b = not (b == quote)

-- the text before a quote, and what follows the quote
abbrev pub behind_quote : List ℕ → List ℕ → Option (List ℕ × List ℕ)
behind_quote text [] = None
behind_quote text (b ∷ bs) = Some (text, bs)

unfoldable pub quoted_at : ℕ → List ℕ → Option (List ℕ × List ℕ)
quoted_at quote text = behind_quote (front (is_other quote) text) (after (is_other quote) text)

-- a text that isn't empty, and what follows it
abbrev pub filled : List ℕ × List ℕ → Option (List ℕ × List ℕ)
filled found = if length found.0 == 0 then None else Some found

unfoldable pub name_at : List ℕ → Option (List ℕ × List ℕ)
name_at [] = None
name_at (b ∷ bs) =
    if is_quote b then quoted_at b bs >>= filled
    else filled (front is_name_byte (b ∷ bs), after is_name_byte (b ∷ bs))

abbrev pub alone : List ℕ × List ℕ → Option (List ℕ)
alone found = if list_all is_blank found.1 then Some found.0 else None

unfoldable pub value_of : List ℕ → Option (List ℕ)
value_of [] = Some []
value_of (b ∷ bs) = if is_quote b then quoted_at b bs >>= alone else Some (trimmed (b ∷ bs))

abbrev pub behind_equals : List ℕ → Option (List ℕ)
behind_equals [] = None
behind_equals (b ∷ bs) = if b == 61 then Some bs else None

unfoldable pub setting_of : List ℕ → Option (List ℕ × List ℕ)
setting_of text = do
  name ← name_at text
  behind ← behind_equals (after is_blank name.1)
  value ← value_of (after is_blank behind)
  Some (name.0, value)
