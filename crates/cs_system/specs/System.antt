-- The content of a system table.
use Rattle.std.specs.Prelude.{ℕ, List, [], ◌∷◌, ◌++◌, length, AllPairs, ◌<◌, ◌≤◌}
use Rattle.cs_table.specs.Setting.{SettingLine}
use Rattle.cs_crontab.specs.declared.table.When.{When}
use Rattle.cs_crontab.specs.declared.limits.TheConstants.{MAX_COMMANDS}

-- the content of one line
pub data Entry : Type 0 where
  Nothing : Entry
  Setting : (name value : List ℕ) → Entry
  Command : When → (user command : List ℕ) → Entry

-- a command, when it starts, the user that it runs as, and the number of its line, from 1
pub record SystemCommand : Type 0 where
  pub number : ℕ
  pub when : When
  pub user : List ℕ
  pub command : List ℕ

pub record Table : Type 0 where
  pub settings : List SettingLine
  pub lines : List SystemCommand

abbrev pub no_lines : Table
no_lines = record { settings = []; lines = [] }

abbrev pub with_entry : ℕ → Entry → Table → Table
with_entry number Nothing table = table
with_entry number (Setting name value) table = record {
  settings = table.settings ++ (record { number = number; name = name; value = value } ∷ []);
  lines = table.lines;
}
with_entry number (Command when user command) table = record {
  settings = table.settings;
  lines = table.lines
      ++ (record { number = number; when = when; user = user; command = command } ∷ []);
}

-- There are not too many commands; settings and commands are each in order of line.
pub record IsOrdered (table : Table) : Type 0 where
  pub few : length table.lines ≤ MAX_COMMANDS
  pub rising : AllPairs (λ x y. x.number < y.number) table.lines
  pub settings_rising : AllPairs (λ x y. x.number < y.number) table.settings
