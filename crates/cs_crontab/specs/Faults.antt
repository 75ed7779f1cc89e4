-- Which fault of a table is the first: of its lines, and in a line from left to right.
use Rattle.std.specs.Prelude.{◌≡◌, ◌≢◌, ℕ, ◌+◌, ◌<◌, ◌≤◌, ◌⊎◌, true, false, nat_eq, List, [], ◌∷◌, ◌++◌, length, drop, Result, Ok, Err}
use Rattle.std.specs.List.{list_all, list_any, slice_split, join_with_byte}
use Rattle.cs_schedule.specs.Times.{Choice}
use Rattle.cs_schedule.specs.declared.part.Part.{Part}
use Rattle.cs_schedule.specs.declared.part.Part.TheVariants.{Minute, Hour, Dom, Month, Dow}
use Rattle.cs_crontab.specs.declared.fault.LineFault.{LineFault}
use Rattle.cs_crontab.specs.declared.fault.LineFault.TheVariants as faults
use Rattle.cs_table.specs.declared.fault.Wrong.{Wrong}
use Rattle.cs_table.specs.declared.fault.TableFault.{TableFault}
use Rattle.cs_table.specs.declared.limits.TheConstants.{MAX_LINE}
use Rattle.cs_table.specs.Wrong.{at_end, whole, before, farther, IsNul, IsWhole}
use Rattle.cs_table.specs.Table as tables
use Rattle.cs_table.specs.Table.{Kind, IsTable}
use Rattle.cs_crontab.specs.declared.table.When.{When}
use Rattle.cs_crontab.specs.declared.limits.TheConstants.{MAX_COMMANDS}
use Rattle.cs_crontab.specs.Crontab.{Command, Table, no_lines}
use Rattle.cs_crontab.specs.Format.{is_comma}
use Rattle.cs_table.specs.Setting.{begins_setting, IsSetting}
use Rattle.cs_table.specs.Text.{lines_of, is_blank, is_solid, Are, StopsAt}
use Rattle.cs_crontab.specs.Grammar.{AreItems, IsField, IsWordFor, Says, Adds}
use Rattle.cs_crontab.specs.Reading.{item_of}

-- one item between the commas has the fault, and those before it have none
abbrev pub IsFieldFault : Part → List ℕ → Wrong LineFault → Type 0
IsFieldFault part word wrong =
    (before : List (List ℕ)) × (text : List ℕ) × (behind items : List (List ℕ))
    × (slice_split is_comma word ≡ before ++ (text ∷ behind)) × AreItems part before items
    × (item_of part text ≡ Err wrong.fault) × (wrong.length ≡ length text)
    × (wrong.left ≡ length (join_with_byte 44 (text ∷ behind)))

-- one field has the fault, or the text ends where it should begin; the fields before it have none;
-- or the text ends after the last field
abbrev pub FieldsFail : List Part → List ℕ → Wrong LineFault → Type 0
FieldsFail [] text wrong = (text ≡ []) × (wrong ≡ at_end faults.NoCommand)
FieldsFail (part ∷ parts) text wrong =
    ((text ≡ []) × (wrong ≡ at_end faults.MissingField))
    ⊎ ((word behind : List ℕ) × (text ≡ word ++ behind) × Are is_solid word
    × StopsAt is_solid behind
    × (((inner : Wrong LineFault) × IsFieldFault part word inner
    × (wrong ≡ farther (length behind) inner))
    ⊎ ((gap rest : List ℕ) × (field : Choice) × (behind ≡ gap ++ rest)
    × (list_all is_blank gap ≡ true) × StopsAt is_blank rest × IsField part word field
    × FieldsFail parts rest wrong)))

abbrev pub five_parts : List Part
five_parts = Minute ∷ Hour ∷ Dom ∷ Month ∷ Dow ∷ []

-- after `@`, the word stands for nothing, or only blanks follow it
abbrev pub WordFails : List ℕ → Wrong LineFault → Type 0
WordFails text wrong =
    (word behind : List ℕ) × (text ≡ word ++ behind) × (list_all is_solid word ≡ true)
    × StopsAt is_solid behind
    × (((wrong ≡ before behind faults.UnknownWord (64 ∷ word))
    × ((when : When) → IsWordFor word when → ⊥))
    ⊎ ((wrong ≡ at_end faults.NoCommand) × (list_all is_blank behind ≡ true)
    × ((when : When) × IsWordFor word when)))

abbrev pub SettingFails : List ℕ → Wrong LineFault → Type 0
SettingFails text wrong =
    (wrong ≡ whole faults.BadSetting text) × ((name value : List ℕ) → IsSetting text name value → ⊥)

-- the first byte decides: `@` begins a word, others a setting or fields; a comment has no fault
abbrev pub TextFails : List ℕ → Wrong LineFault → Type 0
TextFails [] wrong = ⊥
TextFails (b ∷ bs) wrong =
    ((b ≡ 64) × WordFails bs wrong)
    ⊎ (((begins_setting b ≡ true) × SettingFails (b ∷ bs) wrong)
    ⊎ ((b ≢ 35) × (b ≢ 64) × (begins_setting b ≡ false) × FieldsFail five_parts (b ∷ bs) wrong))

-- the line is too long, or holds a zero byte, or its text after leading blanks has the fault
abbrev pub LineFails : List ℕ → Wrong LineFault → Type 0
LineFails line wrong =
    ((MAX_LINE < length line) × (wrong ≡ whole faults.TooLong (drop MAX_LINE line)))
    ⊎ (((length line ≤ MAX_LINE) × IsNul faults.NulByte line wrong)
    ⊎ ((length line ≤ MAX_LINE) × (list_any (λ b. nat_eq b 0) line ≡ false)
    × ((indent text : List ℕ) × (line ≡ indent ++ text) × (list_all is_blank indent ≡ true)
    × StopsAt is_blank text × TextFails text wrong)))

-- the line has a fault; or, after all its own faults, its command is one too many for the table
abbrev pub Fails : Table → List ℕ → Wrong LineFault → Type 0
Fails table line wrong =
    LineFails line wrong
    ⊎ ((MAX_COMMANDS ≤ length table.lines)
    × ((when : When) × (command : List ℕ) × Says line (Command when command))
    × IsWhole faults.TooManyJobs line wrong)

abbrev pub crontab : Kind Table LineFault
crontab = record { empty = no_lines; too_long = faults.TooLong; Adds = Adds; Fails = Fails }

-- the text is written as this table
abbrev pub IsCrontab : List ℕ → Table → Type 0
IsCrontab text table = IsTable crontab text table

-- a text is written as a table, or it has a fault
abbrev pub Meaning : Type 0
Meaning = tables.Meaning Table LineFault

abbrev pub Means : List ℕ → Meaning → Type 0
Means text meaning = tables.Means crontab text meaning

-- the fault that a call answered is the text's, unless memory ran out
abbrev pub IsFaultOf : List ℕ → TableFault LineFault → Type 0
IsFaultOf text fault = tables.IsFaultOf crontab text fault
