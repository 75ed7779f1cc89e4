-- What the fields of a line denote, or their first fault from left to right.
use Rattle.std.specs.Prelude.{◌≡◌, ℕ, Bool, ◌||◌, ◌==◌, ◌+◌, nat_lt, if◌then◌else◌, List, [], ◌∷◌, min, length, take, drop, codes, Option, Some, None, Result, Ok, Err}
use Rattle.std.specs.List.{list_any, slice_split, join_with_byte}
use Rattle.std.specs.Str.{bytes_eq}
use Rattle.cs_schedule.specs.Times.{Choice, Times}
use Rattle.cs_schedule.specs.Numbers.{numbers_where, is_every}
use Rattle.cs_schedule.specs.Part.{first_of, last_of}
use Rattle.cs_crontab.specs.declared.table.When.{When}
use Rattle.cs_crontab.specs.declared.table.When.TheVariants.{At, Reboot}
use Rattle.cs_table.specs.declared.limits.TheConstants.{MAX_LINE}
use Rattle.cs_schedule.specs.declared.part.Part.{Part}
use Rattle.cs_schedule.specs.declared.part.Part.TheVariants.{Minute, Hour, Dom, Month, Dow}
use Rattle.cs_crontab.specs.declared.fault.LineFault.{LineFault}
use Rattle.cs_crontab.specs.declared.fault.LineFault.TheVariants as faults
use Rattle.cs_crontab.specs.Crontab.{Entry, Nothing, Setting, Command}
use Rattle.cs_table.specs.SettingReading.{setting_of}
use Rattle.cs_table.specs.declared.fault.Wrong.{Wrong}
use Rattle.cs_table.specs.Wrong.{◌>>=◌, at_end, whole, at_nul, marked, moved}
use Rattle.cs_crontab.specs.Format.{place_of, counted, all_of, is_comma, times_of_word}
use Rattle.cs_table.specs.Text.{begins_with, front, after, is_blank, is_solid, is_digit, decimal, is_nothing}
use Rattle.cs_table.specs.Setting.{begins_setting}

-- A part of an item is its value and what follows it.

abbrev pub named : Part → Option ℕ → List ℕ → Result (ℕ × List ℕ) LineFault
named part None rest = Err faults.BadNumber
named part (Some place) rest = Ok (first_of part + place, rest)

-- a number of the field, in digits or by its name
unfoldable pub number_at : Part → List ℕ → Result (ℕ × List ℕ) LineFault
number_at part text =
    let digits = front is_digit text in
    if length digits == 0 then named part (place_of part (take 3 text)) (drop 3 text)
    else if nat_lt (decimal digits) (first_of part) || nat_lt (last_of part) (decimal digits)
    then Err faults.OutOfField
    else Ok (decimal digits, after is_digit text)

-- `/n` with n at least 1, or nothing, which is `/1`
unfoldable pub step_at : List ℕ → Result (ℕ × List ℕ) LineFault
step_at [] = Ok (1, [])
step_at (b ∷ bs) =
    if b == 47 then if decimal (front is_digit bs) == 0 then Err faults.BadStep
    else Ok (decimal (front is_digit bs), after is_digit bs)
    else Ok (1, b ∷ bs)

-- a step as the code keeps it: one above 1,000,000 selects the same numbers as 1,000,000
abbrev pub cut_step : Result (ℕ × List ℕ) LineFault → Result (ℕ × List ℕ) LineFault
cut_step step = do
  n ← step
  Ok (min 1_000_000 n.0, n.1)

-- every n-th number from a to z, by the step that was read
abbrev pub every : ℕ → ℕ → Result (ℕ × List ℕ) LineFault → Result (List ℕ × List ℕ) LineFault
every a z step = do
  n ← step
  Ok (numbers_where (is_every a z n.0), n.1)

-- `z` or `z/n`, after `a-`
unfoldable pub end_at : Part → ℕ → List ℕ → Result (List ℕ × List ℕ) LineFault
end_at part a text = do
  z ← number_at part text
  if nat_lt z.0 a then Err faults.Reversed else every a z.0 (step_at z.1)

-- `-z`, `-z/n` or nothing, after `a`
unfoldable pub range_at : Part → ℕ → List ℕ → Result (List ℕ × List ℕ) LineFault
range_at part a [] = every a a (Ok (1, []))
range_at part a (b ∷ bs) =
    if b == 45 then end_at part a bs
    else if b == 47 then Err faults.StepOnNumber
    else every a a (Ok (1, b ∷ bs))

-- `a`, `a-z` or `a-z/n`
unfoldable pub numbers_at : Part → List ℕ → Result (List ℕ × List ℕ) LineFault
numbers_at part text = do
  a ← number_at part text
  range_at part a.0 a.1

-- `*`, `*/n`, or what begins with a number
unfoldable pub item_at : Part → List ℕ → Result (List ℕ × List ℕ) LineFault
item_at part [] = Err faults.BadNumber
item_at part (b ∷ bs) =
    if b == 42 then every (first_of part) (last_of part) (step_at bs) else numbers_at part (b ∷ bs)

-- an item, which is all of its text
unfoldable pub item_of : Part → List ℕ → Result (List ℕ) LineFault
item_of part text = do
  item ← item_at part text
  if is_nothing item.1 then Ok item.0 else Err faults.BadNumber

-- items between commas; a wrong one is marked with how many bytes are left from it on
unfoldable pub items_of : Part → List (List ℕ) → Result (List (List ℕ)) (Wrong LineFault)
items_of part [] = Ok []
items_of part (text ∷ texts) = do
  item ← marked (length (join_with_byte 44 (text ∷ texts))) (length text) (item_of part text)
  items ← items_of part texts
  Ok (item ∷ items)

unfoldable pub list_of : Part → List ℕ → Result (List ℕ) (Wrong LineFault)
list_of part word = do
  items ← items_of part (slice_split is_comma word)
  Ok (all_of items)

-- the items after a comma; none if there is no comma
abbrev pub items_behind : Option (List ℕ) → List (List ℕ)
items_behind None = []
items_behind (Some text) = slice_split is_comma text

unfoldable pub field_of : Part → List ℕ → Result Choice (Wrong LineFault)
field_of part word = do
  numbers ← list_of part word
  Ok (record { star = begins_with 42 word; numbers = counted part numbers })

-- the field in the next word, and the text from the word after it on
unfoldable pub field_at : Part → List ℕ → Result (Choice × List ℕ) (Wrong LineFault)
field_at part text =
    if is_nothing text then Err (at_end faults.MissingField) else do
      field ← moved (length (after is_solid text)) (field_of part (front is_solid text))
      Ok (field, after is_blank (after is_solid text))

-- the five fields, and the text after them
unfoldable pub schedule_at : List ℕ → Result (Times × List ℕ) (Wrong LineFault)
schedule_at text = do
  minute ← field_at Minute text
  hour ← field_at Hour minute.1
  dom ← field_at Dom hour.1
  month ← field_at Month dom.1
  dow ← field_at Dow month.1
  Ok (record { minute = minute.0; hour = hour.0; dom = dom.0; month = month.0; dow = dow.0 }, dow.1)

abbrev pub timed : Option Times → Result When LineFault
timed None = Err faults.UnknownWord
timed (Some schedule) = Ok (At schedule)

unfoldable pub when_of : List ℕ → Result When LineFault
when_of word =
    if bytes_eq word (codes "reboot") then Ok Reboot
    else timed (times_of_word word)

-- a command, which isn't empty
abbrev pub commanded : When → List ℕ → Result Entry (Wrong LineFault)
commanded when command =
    if is_nothing command then Err (at_end faults.NoCommand) else Ok (Command when command)

-- what a line says after its `@`
unfoldable pub word_line : List ℕ → Result Entry (Wrong LineFault)
word_line text = do
  when ← marked (length text + 1) (length (front is_solid text) + 1) (when_of (front is_solid text))
  commanded when (after is_blank (after is_solid text))

abbrev pub set : List ℕ → Option (List ℕ × List ℕ) → Result Entry (Wrong LineFault)
set text None = Err (whole faults.BadSetting text)
set text (Some found) = Ok (Setting found.0 found.1)

-- what a line says after its leading blanks
unfoldable pub entry_of : List ℕ → Result Entry (Wrong LineFault)
entry_of [] = Ok Nothing
entry_of (b ∷ bs) =
    if b == 35 then Ok Nothing
    else if b == 64 then word_line bs
    else if begins_setting b then set (b ∷ bs) (setting_of (b ∷ bs))
    else do
      found ← schedule_at (b ∷ bs)
      commanded (At found.0) found.1

unfoldable pub line_of : List ℕ → Result Entry (Wrong LineFault)
line_of line =
    if nat_lt MAX_LINE (length line) then Err (whole faults.TooLong (drop MAX_LINE line))
    else if list_any (λ b. b == 0) line then Err (at_nul faults.NulByte line)
    else entry_of (after is_blank line)
