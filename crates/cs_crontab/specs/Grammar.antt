-- The grammar of a crontab: how each value is written. Nothing here reads from left to right.
use Rattle.std.specs.Prelude.{◌≡◌, ◌≢◌, ℕ, ◌+◌, ◌<◌, ◌≤◌, ◌⊎◌, true, false, nat_eq, List, [], ◌∷◌, ◌++◌, length, codes, Some}
use Rattle.std.specs.List.{list_all, list_any, join_with_byte}
use Rattle.cs_schedule.specs.Times.{Choice, Times}
use Rattle.cs_schedule.specs.Numbers.{numbers_where, is_every}
use Rattle.cs_schedule.specs.Part.{first_of, last_of}
use Rattle.cs_schedule.specs.declared.part.Part.{Part}
use Rattle.cs_schedule.specs.declared.part.Part.TheVariants.{Minute, Hour, Dom, Month, Dow}
use Rattle.cs_crontab.specs.declared.table.When.{When}
use Rattle.cs_crontab.specs.declared.table.When.TheVariants.{At, Reboot}
use Rattle.cs_table.specs.declared.limits.TheConstants.{MAX_TABLE, MAX_LINE}
use Rattle.cs_crontab.specs.declared.limits.TheConstants.{MAX_COMMANDS}
use Rattle.cs_crontab.specs.Crontab.{Entry, Nothing, Setting, Command, Table, no_lines, with_entry}
use Rattle.cs_crontab.specs.Format.{place_of, counted, all_of, times_of_word}
use Rattle.cs_table.specs.Text.{begins_with, Are, StopsAt, lines_of, is_blank, is_solid, is_digit, decimal}
use Rattle.cs_table.specs.Setting.{begins_as_setting, IsSetting}

-- digits that stand for a number of the field
pub record IsDigits (part : Part) (text : List ℕ) (n : ℕ) : Type 0 where
  pub digits : Are is_digit text
  pub value : n ≡ decimal text
  pub low : first_of part ≤ n
  pub high : n ≤ last_of part

-- three letters that name a number of the field; the first name is that of its first number
abbrev pub IsName : Part → List ℕ → ℕ → Type 0
IsName part text n = (place : ℕ) × (length text ≡ 3) × (place_of part text ≡ Some place)
    × (n ≡ first_of part + place)

abbrev pub IsNumber : Part → List ℕ → ℕ → Type 0
IsNumber part text n = IsDigits part text n ⊎ IsName part text n

-- nothing, which is a step of 1, or `/` and digits
abbrev pub IsStep : List ℕ → ℕ → Type 0
IsStep text n = ((text ≡ []) × (n ≡ 1))
    ⊎ ((digits : List ℕ) × (text ≡ 47 ∷ digits) × Are is_digit digits × (n ≡ decimal digits)
    × (0 < n))

-- `*` and a step
abbrev pub IsStar : Part → List ℕ → List ℕ → Type 0
IsStar part text numbers = (step : List ℕ) × (n : ℕ) × (text ≡ 42 ∷ step) × IsStep step n
    × (numbers ≡ numbers_where (is_every (first_of part) (last_of part) n))

-- `a`
abbrev pub IsSingle : Part → List ℕ → List ℕ → Type 0
IsSingle part text numbers =
    (a : ℕ) × IsNumber part text a × (numbers ≡ numbers_where (is_every a a 1))

-- `a-z` and a step
abbrev pub IsRange : Part → List ℕ → List ℕ → Type 0
IsRange part text numbers =
    (x y step : List ℕ) × (a z n : ℕ) × (text ≡ x ++ (45 ∷ (y ++ step))) × IsNumber part x a
    × IsNumber part y z × (a ≤ z) × IsStep step n
    × (numbers ≡ numbers_where (is_every a z n))

abbrev pub IsItem : Part → List ℕ → List ℕ → Type 0
IsItem part text numbers =
    IsStar part text numbers ⊎ (IsSingle part text numbers ⊎ IsRange part text numbers)

abbrev pub AreItems : Part → List (List ℕ) → List (List ℕ) → Type 0
AreItems part [] items = items ≡ []
AreItems part (text ∷ texts) items = (numbers : List ℕ) × (others : List (List ℕ))
    × IsItem part text numbers × AreItems part texts others × (items ≡ numbers ∷ others)

-- one or more items, with commas between them
abbrev pub IsField : Part → List ℕ → Choice → Type 0
IsField part text field =
    (texts items : List (List ℕ)) × (texts ≢ []) × (text ≡ join_with_byte 44 texts)
    × AreItems part texts items
    × (field ≡ record { star = begins_with 42 text; numbers = counted part (all_of items) })

-- the fields are written in the text, each with blanks after it, and then the command
abbrev pub AreFields : List (Part × Choice) → List ℕ → List ℕ → Type 0
AreFields [] text command = text ≡ command
AreFields (f ∷ fs) text command =
    (word gap rest : List ℕ) × (text ≡ word ++ (gap ++ rest)) × Are is_solid word × Are is_blank gap
    × StopsAt is_blank rest × IsField f.0 word f.1 × AreFields fs rest command

abbrev pub fields_of : Times → List (Part × Choice)
fields_of s =
    (Minute, s.minute) ∷ (Hour, s.hour) ∷ (Dom, s.dom) ∷ (Month, s.month) ∷ (Dow, s.dow) ∷ []

-- five fields and then the command
abbrev pub AreTimes : List ℕ → When → List ℕ → Type 0
AreTimes text (At schedule) command = AreFields (fields_of schedule) text command
AreTimes text Reboot command = ⊥

-- what a word after `@` stands for
abbrev pub IsWordFor : List ℕ → When → Type 0
IsWordFor word (At schedule) = times_of_word word ≡ Some schedule
IsWordFor word Reboot = word ≡ codes "reboot"

-- `@` and a word, blanks, and then the command
abbrev pub IsWordLine : List ℕ → When → List ℕ → Type 0
IsWordLine text when command =
    (word gap : List ℕ) × (text ≡ 64 ∷ (word ++ (gap ++ command))) × Are is_solid word
    × Are is_blank gap × StopsAt is_blank command × IsWordFor word when

-- a text without leading blanks says nothing if it is empty or a comment; a setting begins with a
-- letter, `_` or a quote (this profile)
abbrev pub TextSays : List ℕ → Entry → Type 0
TextSays text Nothing = (text ≡ []) ⊎ ((comment : List ℕ) × (text ≡ 35 ∷ comment))
TextSays text (Setting name value) = (begins_as_setting text ≡ true) × IsSetting text name value
TextSays text (Command when command) =
    (AreTimes text when command ⊎ IsWordLine text when command) × (command ≢ [])

-- what a line says; leading blanks don't count
pub record Says (line : List ℕ) (entry : Entry) : Type 0 where
  pub short : length line ≤ MAX_LINE
  pub clean : list_any (λ b. nat_eq b 0) line ≡ false
  pub indent : List ℕ
  pub text : List ℕ
  pub parts : line ≡ indent ++ text
  pub blank : list_all is_blank indent ≡ true
  pub says : TextSays text entry

-- there is room for a command in the table
abbrev pub HasRoom : Table → Entry → Type 0
HasRoom table Nothing = Unit {0}
HasRoom table (Setting name value) = Unit {0}
HasRoom table (Command when command) = length table.lines < MAX_COMMANDS

-- the line with this number makes one table into the other
abbrev pub Adds : ℕ → Table → List ℕ → Table → Type 0
Adds number table line more = (entry : Entry) × Says line entry × HasRoom table entry
    × (more ≡ with_entry number entry table)
