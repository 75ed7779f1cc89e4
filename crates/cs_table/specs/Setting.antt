-- How a setting is written: `name = value` (crontab(5)).
use Rattle.std.specs.Prelude.{◌≡◌, ℕ, Bool, true, false, not, ◌&&◌, ◌||◌, ◌==◌, nat_le, ◌⊎◌, List, [], ◌∷◌, ◌++◌}
use Rattle.std.specs.List.{list_all}
use Rattle.cs_table.specs.Text.{is_blank, Are, StopsAt}

abbrev pub is_quote : ℕ → Bool
is_quote b = b == 34 || b == 39

-- a byte of a name without quotes
abbrev pub is_name_byte : ℕ → Bool
is_name_byte b = not (is_blank b) && not (b == 61)

-- the name, whose first byte is no quote; or the name in quotes, which doesn't hold that quote
abbrev pub IsName : List ℕ → List ℕ → Type 0
IsName text name =
    ((text ≡ name) × Are is_name_byte name × StopsAt is_quote name)
    ⊎ ((quote : ℕ) × (is_quote quote ≡ true) × (text ≡ quote ∷ (name ++ (quote ∷ [])))
    × Are (λ b. not (b == quote)) name)

-- empty, or its last byte is no blank
abbrev pub EndsSolid : List ℕ → Type 0
EndsSolid text = (text ≡ [])
    ⊎ ((front : List ℕ) × (last : ℕ) × (text ≡ front ++ (last ∷ [])) × (is_blank last ≡ false))

-- the value, whose first byte is no quote, and blanks after it; or the value in quotes, which
-- doesn't hold that quote, and blanks after it
abbrev pub IsValue : List ℕ → List ℕ → Type 0
IsValue text value =
    ((gap : List ℕ) × (text ≡ value ++ gap) × (list_all is_blank gap ≡ true)
    × StopsAt is_quote value × EndsSolid value)
    ⊎ ((quote : ℕ) × (gap : List ℕ) × (is_quote quote ≡ true)
    × (text ≡ quote ∷ (value ++ (quote ∷ gap))) × (list_all (λ b. not (b == quote)) value ≡ true)
    × (list_all is_blank gap ≡ true))

-- the name and the value, with or without blanks around `=`
pub record IsSetting (text name value : List ℕ) : Type 0 where
  pub before : List ℕ
  pub gap : List ℕ
  pub later_gap : List ℕ
  pub behind : List ℕ
  pub parts : text ≡ before ++ (gap ++ (61 ∷ (later_gap ++ behind)))
  pub blank : list_all is_blank gap ≡ true
  pub later_blank : list_all is_blank later_gap ≡ true
  pub stops : StopsAt is_blank behind
  pub named : IsName before name
  pub valued : IsValue behind value

-- a setting begins with a letter, `_` or a quote (this profile)
abbrev pub begins_setting : ℕ → Bool
begins_setting b =
    nat_le 65 b && nat_le b 90 || nat_le 97 b && nat_le b 122 || b == 95 || b == 34 || b == 39

abbrev pub begins_as_setting : List ℕ → Bool
begins_as_setting [] = false
begins_as_setting (b ∷ bs) = begins_setting b

-- lines are counted from 1
pub record SettingLine : Type 0 where
  pub number : ℕ
  pub name : List ℕ
  pub value : List ℕ
