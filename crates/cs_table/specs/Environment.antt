-- The environment of a command: the settings of the lines above its own (crontab(5)).
use Rattle.std.specs.Prelude.{◌≡◌, ◌≢◌, ℕ, not, nat_lt, if◌then◌else◌, List, [], ◌∷◌, ◌++◌, filter, map, All}
use Rattle.std.specs.Borrow.{Bor}
use Rattle.std.specs.Str.{bytes_eq}
use Rattle.cs_table.specs.Setting.{SettingLine}

abbrev pub Variable : Type 0
Variable = List ℕ × List ℕ

abbrev pub above : ℕ → List SettingLine → List SettingLine
above line settings = filter (λ s. nat_lt s.number line) settings

abbrev pub names_of : List SettingLine → List (List ℕ)
names_of settings = map (λ s. s.name) settings

-- each name once, in order of its first place
unfoldable pub first_places : List (List ℕ) → List (List ℕ)
first_places [] = []
first_places (name ∷ names) =
    name ∷ filter (λ other. not (bytes_eq name other)) (first_places names)

-- the last of the settings that has the name has the value
abbrev pub IsLast : List SettingLine → Variable → Type 0
IsLast settings variable =
    (before : List SettingLine) × (setting : SettingLine) × (behind : List SettingLine)
    × (settings ≡ before ++ (setting ∷ behind)) × (setting.name ≡ variable.0)
    × (setting.value ≡ variable.1) × All (λ s. s.name ≢ variable.0) behind

-- one more setting: a new value of its name, or a new name at the end
unfoldable pub put : List ℕ → List ℕ → List Variable → List Variable
put name value [] = (name, value) ∷ []
put name value (v ∷ vs) = if bytes_eq v.0 name then (v.0, value) ∷ vs else v ∷ put name value vs

unfoldable pub put_all : ℕ → List Variable → List SettingLine → List Variable
put_all line variables [] = variables
put_all line variables (s ∷ ss) =
    put_all line (if nat_lt s.number line then put s.name s.value variables else variables) ss

-- a borrowed name and value
abbrev pub shown : Bor (List ℕ) × Bor (List ℕ) → Variable
shown e = (e.0.now, e.1.now)
