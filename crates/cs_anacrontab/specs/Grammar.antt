-- The grammar of an anacrontab: how each value is written. Nothing here reads from left to right.
use Rattle.std.specs.Prelude.{◌≡◌, ◌≢◌, ℕ, ◌+◌, ◌<◌, ◌≤◌, ◌⊎◌, true, false, nat_eq, List, [], ◌∷◌, ◌++◌, length, codes, All}
use Rattle.std.specs.List.{list_all, list_any}
use Rattle.std.specs.Str.{IsUtf8}
use Rattle.cs_table.specs.declared.limits.TheConstants.{MAX_TABLE, MAX_LINE}
use Rattle.cs_table.specs.Setting.{begins_as_setting, IsSetting}
use Rattle.cs_table.specs.Text.{lines_of, is_blank, is_solid, is_digit, decimal, Are, StopsAt}
use Rattle.cs_anacrontab.specs.declared.limits.TheConstants.{MAX_JOBS, MAX_PERIOD, MAX_DELAY, MAX_IDENTIFIER}
use Rattle.cs_anacrontab.specs.declared.period.Period.{Period}
use Rattle.cs_anacrontab.specs.declared.period.Period.TheVariants.{Days, Monthly}
use Rattle.cs_anacrontab.specs.Anacrontab.{Entry, Nothing, Setting, Job, Table, no_lines, with_entry, AreDistinct}

-- digits that stand for a number up to the highest
pub record IsNumber (highest : ℕ) (text : List ℕ) (n : ℕ) : Type 0 where
  pub digits : Are is_digit text
  pub value : n ≡ decimal text
  pub high : n ≤ highest

-- days: a number from 1 on, `@daily`, which is 1, or `@weekly`, which is 7
abbrev pub IsPeriod : List ℕ → Period → Type 0
IsPeriod text (Days n) = (IsNumber MAX_PERIOD text n × (1 ≤ n))
    ⊎ (((text ≡ codes "@daily") × (n ≡ 1)) ⊎ ((text ≡ codes "@weekly") × (n ≡ 7)))
IsPeriod text Monthly = text ≡ codes "@monthly"

-- a word that names a stamp file
pub record IsIdentifier (text : List ℕ) : Type 0 where
  pub short : length text ≤ MAX_IDENTIFIER
  pub utf8 : IsUtf8 text
  pub no_slash : list_any (λ b. nat_eq b 47) text ≡ false
  pub no_dot : text ≢ codes "."
  pub no_dots : text ≢ codes ".."

-- a word without blanks, blanks after it, and then the rest
pub record HasWord (text word rest : List ℕ) : Type 0 where
  pub gap : List ℕ
  pub parts : text ≡ word ++ (gap ++ rest)
  pub solid : Are is_solid word
  pub blank : Are is_blank gap
  pub stops : StopsAt is_blank rest

-- a period, a delay, an identifier and a command (anacrontab(5))
pub record IsJob (text : List ℕ) (period : Period) (delay : ℕ)
    (identifier command : List ℕ) : Type 0 where
  pub period_word : List ℕ
  pub behind_period : List ℕ
  pub delay_word : List ℕ
  pub behind_delay : List ℕ
  pub first : HasWord text period_word behind_period
  pub second : HasWord behind_period delay_word behind_delay
  pub third : HasWord behind_delay identifier command
  pub period_is : IsPeriod period_word period
  pub delay_is : IsNumber MAX_DELAY delay_word delay
  pub identifier_is : IsIdentifier identifier
  pub some : command ≢ []

-- the last byte is a backslash
abbrev pub IsContinued : List ℕ → Type 0
IsContinued text = (front : List ℕ) × (text ≡ front ++ (92 ∷ []))

-- a text without leading blanks says nothing if it is empty or a comment; a setting begins with a
-- letter, `_` or a quote (this profile)
abbrev pub TextSays : List ℕ → Entry → Type 0
TextSays text Nothing = (text ≡ []) ⊎ ((comment : List ℕ) × (text ≡ 35 ∷ comment))
TextSays text (Setting name value) =
    ¬ (IsContinued text) × (begins_as_setting text ≡ true) × IsSetting text name value
TextSays text (Job period delay identifier command) =
    ¬ (IsContinued text) × IsJob text period delay identifier command

-- what a line says; leading blanks don't count
pub record Says (line : List ℕ) (entry : Entry) : Type 0 where
  pub short : length line ≤ MAX_LINE
  pub clean : list_any (λ b. nat_eq b 0) line ≡ false
  pub indent : List ℕ
  pub text : List ℕ
  pub parts : line ≡ indent ++ text
  pub blank : list_all is_blank indent ≡ true
  pub says : TextSays text entry

-- a job has an identifier of its own, and there is room for it in the table
abbrev pub HasRoom : Table → Entry → Type 0
HasRoom table Nothing = Unit {0}
HasRoom table (Setting name value) = Unit {0}
HasRoom table (Job period delay identifier command) =
    All (λ before. before.identifier ≢ identifier) table.lines × (length table.lines < MAX_JOBS)

-- the line with this number makes one table into the other
abbrev pub Adds : ℕ → Table → List ℕ → Table → Type 0
Adds number table line more = (entry : Entry) × Says line entry × HasRoom table entry
    × (more ≡ with_entry number entry table)
