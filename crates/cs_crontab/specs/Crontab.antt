-- What a crontab says.
use Rattle.std.specs.Prelude.{ℕ, List, [], ◌∷◌, ◌++◌, length, AllPairs, ◌<◌, ◌≤◌, ◌==◌, not}
use Rattle.std.specs.List.{filter, list_any}
use Rattle.cs_table.specs.Setting.{SettingLine}
use Rattle.cs_crontab.specs.declared.table.When.{When}
use Rattle.cs_crontab.specs.declared.limits.TheConstants.{MAX_COMMANDS}

-- what one line says
pub data Entry : Type 0 where
  Nothing : Entry
  Setting : (name value : List ℕ) → Entry
  Command : When → (command : List ℕ) → Entry

-- lines are counted from 1
pub record CommandLine : Type 0 where
  pub number : ℕ
  pub when : When
  pub command : List ℕ

pub record Table : Type 0 where
  pub settings : List SettingLine
  pub lines : List CommandLine

abbrev pub no_lines : Table
no_lines = record { settings = []; lines = [] }

-- what a line says comes to the end of the table
abbrev pub with_entry : ℕ → Entry → Table → Table
with_entry number Nothing table = table
with_entry number (Setting name value) table = record {
  settings = table.settings ++ (record { number = number; name = name; value = value } ∷ []);
  lines = table.lines;
}
with_entry number (Command when command) table = record {
  settings = table.settings;
  lines = table.lines ++ (record { number = number; when = when; command = command } ∷ []);
}

-- not too many commands; settings and commands in order of line, each on a line of its own
pub record IsOrdered (table : Table) : Type 0 where
  pub few : length table.lines ≤ MAX_COMMANDS
  pub rising : AllPairs (λ x y. x.number < y.number) table.lines
  pub settings_rising : AllPairs (λ x y. x.number < y.number) table.settings

abbrev pub without : List ℕ → Table → Table
without numbers table = record {
  settings = table.settings;
  lines = filter (λ line. not (list_any (λ n. n == line.number) numbers)) table.lines;
}
