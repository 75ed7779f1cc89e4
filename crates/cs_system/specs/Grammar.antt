-- The grammar of a system table: a line of a user's table, with a user before its command.
use Rattle.std.specs.Prelude.{◌≡◌, ◌≢◌, ℕ, ◌<◌, Bool, false, nat_lt, ◌||◌, ◌==◌, List, [], ◌++◌, length}
use Rattle.std.specs.List.{list_any}
use Rattle.cs_table.specs.Setting.{is_quote}
use Rattle.cs_table.specs.Text.{is_blank, is_solid, Are, StopsAt}
use Rattle.cs_crontab.specs.declared.limits.TheConstants.{MAX_COMMANDS}
use Rattle.cs_crontab.specs.Crontab as users
use Rattle.cs_crontab.specs.Grammar.{Says as UserSays}
use Rattle.cs_system.specs.System.{Entry, Nothing, Setting, Command, Table, with_entry}

-- no user's name has such a byte: `/`, `=`, a quote or a control byte (this profile)
abbrev pub is_foreign : ℕ → Bool
is_foreign b = b == 47 || b == 61 || is_quote b || nat_lt b 32 || b == 127

abbrev pub IsUser : List ℕ → Type 0
IsUser word = Are is_solid word × (list_any is_foreign word ≡ false)

-- A line is one of a user's table, in which each command starts with the user and blanks
-- (crontab(5)).
abbrev pub Says : List ℕ → Entry → Type 0
Says line Nothing = UserSays line users.Nothing
Says line (Setting name value) = UserSays line (users.Setting name value)
Says line (Command when user command) =
    (gap : List ℕ) × UserSays line (users.Command when (user ++ (gap ++ command))) × IsUser user
    × Are is_blank gap × StopsAt is_blank command × (command ≢ [])

-- The table has room for a command.
abbrev pub HasRoom : Table → Entry → Type 0
HasRoom table Nothing = Unit {0}
HasRoom table (Setting name value) = Unit {0}
HasRoom table (Command when user command) = length table.lines < MAX_COMMANDS

-- The line of this number makes one table into the other.
abbrev pub Adds : ℕ → Table → List ℕ → Table → Type 0
Adds number table line more = (entry : Entry) × Says line entry × HasRoom table entry
    × (more ≡ with_entry number entry table)
