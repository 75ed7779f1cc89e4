-- The schedule that an entry gives with its command.
use Rattle.std.specs.Prelude.{ℕ, List, ◌++◌, Option, None, Some, Result, Ok, Err, Bool, true, false, not, ◌&&◌, bytes_eq, codes, if◌then◌else◌}
use Rattle.std.specs.List.{list_all, range_with_len}
use Rattle.cs_table.specs.declared.fault.Wrong.{Wrong}
use Rattle.cs_crontab.specs.Crontab.{Entry, Nothing, Setting, Command}
use Rattle.cs_crontab.specs.declared.fault.LineFault.{LineFault}
use Rattle.cs_crontab.specs.declared.table.When.{When}
use Rattle.cs_crontab.specs.declared.table.When.TheVariants.{At, Reboot}
use Rattle.cs_crontab.specs.Reading.{line_of}
use Rattle.cs_schedule.specs.Numbers.{has}
use Rattle.cs_schedule.specs.Times.{Choice, Times}

-- the schedule of a line whose command is `x`
abbrev pub when_of_x : Result Entry (Wrong LineFault) → Option When
when_of_x (Err wrong) = None
when_of_x (Ok Nothing) = None
when_of_x (Ok (Setting name value)) = None
when_of_x (Ok (Command when command)) = if bytes_eq command (codes "x") then Some when else None

-- what the text means before a command: five fields, or an `@` word
unfoldable pub when_named : List ℕ → Option When
when_named text = when_of_x (line_of (text ++ codes " x"))

abbrev pub agree : Bool → Bool → Bool
agree true b = b
agree false b = not b

unfoldable pub same_numbers : List ℕ → List ℕ → Bool
same_numbers a b = list_all (λ n. agree (has a n) (has b n)) (range_with_len 0 64)

-- the same numbers, and both begin with `*` or neither
unfoldable pub same_choice : Choice → Choice → Bool
same_choice a b = agree a.star b.star && same_numbers a.numbers b.numbers

unfoldable pub same_times : Times → Times → Bool
same_times a b = same_choice a.minute b.minute && (same_choice a.hour b.hour
    && (same_choice a.dom b.dom && (same_choice a.month b.month && same_choice a.dow b.dow)))

abbrev pub same_when : When → When → Bool
same_when (At a) (At b) = same_times a b
same_when (At a) Reboot = false
same_when Reboot (At b) = false
same_when Reboot Reboot = true

-- no schedule is given, or this one
abbrev pub is_told_when : Option When → When → Bool
is_told_when None when = true
is_told_when (Some told) when = same_when told when
