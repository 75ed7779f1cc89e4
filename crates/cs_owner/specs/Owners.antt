-- The owners of a gathered table's commands.
use Rattle.std.specs.Prelude.{◌≡◌, ◌⊎◌, ℕ, ◌+◌, ◌-◌, ◌==◌, nat_eq, if◌then◌else◌, true, false, List, [], ◌∷◌, ◌++◌, drop, take, length, Option, Some, None, Ok, codes, Contains, ⊤}
use Rattle.std.specs.List.{AllZip, list_any, starts_with}
use Rattle.cs_table.specs.Setting.{SettingLine}
use Rattle.cs_table.specs.Text.{after, is_digit, lines_of}
use Rattle.cs_crontab.specs.Crontab.{CommandLine, Setting, Table}
use Rattle.cs_crontab.specs.Reading.{line_of}
use Rattle.cs_place.specs.Mark.{is_gathered}
use Rattle.cs_place.specs.Places.{place_of}
use Rattle.cs_place.specs.declared.places.Place.{Place}
use Rattle.cs_owner.specs.declared.owners.Owner.{Owner}
use Rattle.cs_owner.specs.declared.owners.Unowned.{Unowned}
use Rattle.cs_owner.specs.declared.owners.Unowned.TheVariants.{NoMemory, NoPlace, Unfit}

-- ---- notes about a table's settings

-- a note of the table begins with `# NAME:`
abbrev pub note_front : List ℕ → List ℕ
note_front table = codes "# " ++ (table ++ codes ":")

-- all after the digits that follow, those of a line's number
abbrev pub noted : List ℕ → List ℕ → Option (List ℕ)
noted table line =
    if starts_with nat_eq line (note_front table)
    then Some (after is_digit (drop (length (note_front table)) line))
    else None

abbrev pub on_line : ℕ → Option (List ℕ) → List (ℕ × List ℕ)
on_line number None = []
on_line number (Some note) = (number, note) ∷ []

-- `number` is that of the first line
unfoldable pub notes_from : List ℕ → ℕ → List (List ℕ) → List (ℕ × List ℕ)
notes_from table number [] = []
notes_from table number (line ∷ lines) =
    on_line number (noted table line) ++ notes_from table (number + 1) lines

abbrev pub notes_above : ℕ → List ℕ → List ℕ → List (ℕ × List ℕ)
notes_above number table text = notes_from table 1 (take (number - 1) (lines_of text))

-- the note is that setting: env(1) takes its name, and no byte of it is shown as `\xNN`
pub record IsNoteOf (note : ℕ × List ℕ) (setting : SettingLine) : Type 0 where
  pub number : setting.number ≡ note.0
  pub says : line_of note.1 ≡ Ok (Setting setting.name setting.value)
  pub whole : list_any (λ b. b == 92) note.1 ≡ false
  pub joined : list_any (λ b. b == 61) setting.name ≡ false
  pub no_option : starts_with nat_eq setting.name (codes "-") ≡ false

-- ---- the owners

-- the place's origin is the table's name, a colon and a number
abbrev pub IsIn : List ℕ → Place → Type 0
IsIn table place = (number : List ℕ) × (place.origin ≡ table ++ (codes ":" ++ number))
    × (list_any (λ b. b == 58) number ≡ false)

abbrev pub IsFrom : List Place → ℕ → Place → List ℕ → Type 0
IsFrom places number place table = (place_of places number ≡ Some place) × IsIn table place

-- the user is the place's; the settings are those noted above the line of its table, in turn
pub record IsOwner (text : List ℕ) (places : List Place) (line : CommandLine) (owner : Owner)
    : Type 0 where
  pub place : Place
  pub table : List ℕ
  pub is_from : IsFrom places line.number place table
  pub user : owner.user ≡ place.user
  pub settings : AllZip IsNoteOf (notes_above line.number table text) owner.settings

-- a table that isn't gathered has no owners
abbrev pub AreOwnersOf : List ℕ → List Place → Table → List Owner → Type 0
AreOwnersOf text places table owners =
    ((is_gathered table.settings ≡ true) × AllZip (IsOwner text places) table.lines owners)
    ⊎ ((is_gathered table.settings ≡ false) × (owners ≡ []))

-- ---- why there are none

-- what a line above notes of the table is no setting that fits
abbrev pub IsUnfitAbove : ℕ → List ℕ → List ℕ → ℕ → Type 0
IsUnfitAbove line table text number = (note : List ℕ)
    × Contains (notes_above line table text) (number, note)
    × ((setting : SettingLine) → ¬ (IsNoteOf (number, note) setting))

-- there is no place, a note above doesn't fit, or memory ran out
abbrev pub LacksOwner : List ℕ → List Place → ℕ → Unowned → Type 0
LacksOwner text places line NoMemory = ⊤
LacksOwner text places line (NoPlace number) = (number ≡ line)
    × ((place : Place) (table : List ℕ) → ¬ (IsFrom places line place table))
LacksOwner text places line (Unfit number) = (place : Place) × (table : List ℕ)
    × IsFrom places line place table × IsUnfitAbove line table text number

abbrev pub IsUnowned : List ℕ → List Place → Table → Unowned → Type 0
IsUnowned text places table fault = (is_gathered table.settings ≡ true)
    × ((line : CommandLine) × Contains table.lines line
    × LacksOwner text places line.number fault)
