-- What an anacrontab says.
use Rattle.std.specs.Prelude.{ℕ, List, [], ◌∷◌, ◌++◌, length, All, AllPairs, ◌<◌, ◌≤◌, ◌≢◌}
use Rattle.cs_table.specs.Setting.{SettingLine}
use Rattle.cs_anacrontab.specs.declared.period.Period.{Period}
use Rattle.cs_anacrontab.specs.declared.period.Period.TheVariants.{Days, Monthly}
use Rattle.cs_anacrontab.specs.declared.limits.TheConstants.{MAX_JOBS, MAX_PERIOD, MAX_DELAY}

-- what one line says
pub data Entry : Type 0 where
  Nothing : Entry
  Setting : (name value : List ℕ) → Entry
  Job : (period : Period) (delay : ℕ) (identifier command : List ℕ) → Entry

-- lines are counted from 1
pub record JobLine : Type 0 where
  pub number : ℕ
  pub period : Period
  pub delay : ℕ
  pub identifier : List ℕ
  pub command : List ℕ

pub record Table : Type 0 where
  pub settings : List SettingLine
  pub lines : List JobLine

abbrev pub no_lines : Table
no_lines = record { settings = []; lines = [] }

-- a setting, a job, or what a line says comes to the end of the table
abbrev pub with_setting : ℕ → List ℕ → List ℕ → Table → Table
with_setting number name value table = record {
  settings = table.settings ++ (record { number = number; name = name; value = value } ∷ []);
  lines = table.lines;
}

abbrev pub with_job : ℕ → Period → ℕ → List ℕ → List ℕ → Table → Table
with_job number period delay identifier command table =
    record {
      settings = table.settings;
      lines = table.lines
          ++ (record {
            number = number;
            period = period;
            delay = delay;
            identifier = identifier;
            command = command;
          } ∷ []);
    }

abbrev pub with_entry : ℕ → Entry → Table → Table
with_entry number Nothing table = table
with_entry number (Setting name value) table = with_setting number name value table
with_entry number (Job period delay identifier command) table =
    with_job number period delay identifier command table

abbrev pub AreDistinct : List JobLine → Type 0
AreDistinct lines = AllPairs (λ x y. x.identifier ≢ y.identifier) lines

-- a number of days up to the longest period, or a month
abbrev pub IsPossiblePeriod : Period → Type 0
IsPossiblePeriod (Days n) = (1 ≤ n) × (n ≤ MAX_PERIOD)
IsPossiblePeriod Monthly = Unit {0}

pub record IsPossible (job : JobLine) : Type 0 where
  pub period : IsPossiblePeriod job.period
  pub delay : job.delay ≤ MAX_DELAY

-- not too many jobs, in range and with different identifiers; jobs and settings in order of line
pub record IsOrdered (table : Table) : Type 0 where
  pub few : length table.lines ≤ MAX_JOBS
  pub possible : All IsPossible table.lines
  pub distinct : AreDistinct table.lines
  pub rising : AllPairs (λ x y. x.number < y.number) table.lines
  pub settings_rising : AllPairs (λ x y. x.number < y.number) table.settings
