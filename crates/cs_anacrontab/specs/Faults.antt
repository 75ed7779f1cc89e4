-- Which fault of an anacrontab is the first: of its lines, and in a line from left to right.
use Rattle.std.specs.Prelude.{◌≡◌, ◌≢◌, ℕ, ◌+◌, ◌<◌, ◌≤◌, ◌⊎◌, true, false, nat_eq, List, [], ◌∷◌, ◌++◌, length, drop, All, Contains, Result, Ok, Err}
use Rattle.std.specs.List.{list_all, list_any}
use Rattle.cs_table.specs.declared.limits.TheConstants.{MAX_LINE}
use Rattle.cs_table.specs.Text.{begins_with, lines_of, is_blank, is_solid, Are, StopsAt}
use Rattle.cs_table.specs.Setting.{begins_setting, IsSetting}
use Rattle.cs_table.specs.declared.fault.Wrong.{Wrong}
use Rattle.cs_table.specs.declared.fault.TableFault.{TableFault}
use Rattle.cs_table.specs.Wrong.{at_end, at_front, last_byte, whole, IsNul, IsWhole}
use Rattle.cs_table.specs.Table as tables
use Rattle.cs_table.specs.Table.{Kind, IsTable}
use Rattle.cs_anacrontab.specs.declared.limits.TheConstants.{MAX_JOBS, MAX_DELAY}
use Rattle.cs_anacrontab.specs.declared.period.Period.{Period}
use Rattle.cs_anacrontab.specs.declared.fault.JobFault.{JobFault}
use Rattle.cs_anacrontab.specs.declared.fault.JobFault.TheVariants as faults
use Rattle.cs_anacrontab.specs.Anacrontab.{Job, JobLine, Table, no_lines}
use Rattle.cs_anacrontab.specs.Grammar.{IsNumber, IsPeriod, IsIdentifier, IsContinued, Says, Adds}

-- the first word of a text, and what follows it after blanks, if anything does
pub record HasNext (text word rest : List ℕ) : Type 0 where
  pub gap : List ℕ
  pub parts : text ≡ word ++ (gap ++ rest)
  pub solid : Are is_solid word
  pub ends : StopsAt is_solid (gap ++ rest)
  pub blank : list_all is_blank gap ≡ true
  pub stops : StopsAt is_blank rest

-- the word is no period: it is unknown after `@`, or no number of days in range
abbrev pub PeriodFails : List ℕ → JobFault → Type 0
PeriodFails word fault =
    ((period : Period) → IsPeriod word period → ⊥)
    × (((begins_with 64 word ≡ true) × (fault ≡ faults.UnknownWord))
    ⊎ ((begins_with 64 word ≡ false) × (fault ≡ faults.BadPeriod)))

-- the text ends where a part should begin
abbrev pub IsMissing : List ℕ → Wrong JobFault → Type 0
IsMissing text wrong = (text ≡ []) × (wrong ≡ at_end faults.MissingField)

-- after the delay, the identifier is missing or isn't one, or the command is missing
abbrev pub IdentifierFails : List ℕ → Wrong JobFault → Type 0
IdentifierFails text wrong =
    IsMissing text wrong
    ⊎ ((word rest : List ℕ) × HasNext text word rest
    × ((¬ (IsIdentifier word) × (wrong ≡ at_front faults.BadIdentifier text word))
    ⊎ (IsIdentifier word × IsMissing rest wrong)))

-- after the period, the delay is missing or isn't one, or what follows has the fault
abbrev pub DelayFails : List ℕ → Wrong JobFault → Type 0
DelayFails text wrong =
    IsMissing text wrong
    ⊎ ((word rest : List ℕ) × HasNext text word rest
    × ((((n : ℕ) → IsNumber MAX_DELAY word n → ⊥) × (wrong ≡ at_front faults.BadDelay text word))
    ⊎ ((n : ℕ) × IsNumber MAX_DELAY word n × IdentifierFails rest wrong)))

-- the first word is no period, or what follows has the fault
abbrev pub JobFails : List ℕ → Wrong JobFault → Type 0
JobFails text wrong = (word rest : List ℕ) × HasNext text word rest
    × (((fault : JobFault) × PeriodFails word fault × (wrong ≡ at_front fault text word))
    ⊎ ((period : Period) × IsPeriod word period × DelayFails rest wrong))

abbrev pub SettingFails : List ℕ → Wrong JobFault → Type 0
SettingFails text wrong =
    ((name value : List ℕ) → IsSetting text name value → ⊥) × (wrong ≡ whole faults.BadSetting text)

-- a text without leading blanks that is no comment ends with a backslash; or the first byte decides
-- whether it is a setting or a job with the fault
abbrev pub TextFails : List ℕ → Wrong JobFault → Type 0
TextFails [] wrong = ⊥
TextFails (b ∷ bs) wrong =
    (b ≢ 35)
    × ((IsContinued (b ∷ bs) × (wrong ≡ last_byte faults.Continued))
    ⊎ (¬ (IsContinued (b ∷ bs))
    × (((begins_setting b ≡ true) × SettingFails (b ∷ bs) wrong)
    ⊎ ((begins_setting b ≡ false) × JobFails (b ∷ bs) wrong))))

-- the line is too long, or holds a zero byte, or its text after leading blanks has the fault
abbrev pub LineFails : List ℕ → Wrong JobFault → Type 0
LineFails line wrong =
    ((MAX_LINE < length line) × (wrong ≡ whole faults.TooLong (drop MAX_LINE line)))
    ⊎ (((length line ≤ MAX_LINE) × IsNul faults.NulByte line wrong)
    ⊎ ((length line ≤ MAX_LINE) × (list_any (λ b. nat_eq b 0) line ≡ false)
    × ((indent text : List ℕ) × (line ≡ indent ++ text) × (list_all is_blank indent ≡ true)
    × StopsAt is_blank text × TextFails text wrong)))

-- a job with the identifier of an earlier one; that identifier, after the delay, is wrong
abbrev pub IsTwiceNamed : Table → List ℕ → Wrong JobFault → Type 0
IsTwiceNamed table line wrong =
    (period : Period) × (delay : ℕ) × (identifier command : List ℕ) × (before : JobLine)
    × Contains table.lines before × (before.identifier ≡ identifier)
    × (job : Says line (Job period delay identifier command))
    × (wrong ≡ at_front faults.TwiceNamed job.says.1.behind_delay identifier)

-- a job with an identifier of its own, one more than there may be
abbrev pub IsOneTooMany : Table → List ℕ → Type 0
IsOneTooMany table line =
    (period : Period) × (delay : ℕ) × (identifier command : List ℕ)
    × Says line (Job period delay identifier command)
    × All (λ before. before.identifier ≢ identifier) table.lines × (MAX_JOBS ≤ length table.lines)

-- the line has a fault; after all its own faults come a repeated identifier, then a job above the
-- limit
abbrev pub Fails : Table → List ℕ → Wrong JobFault → Type 0
Fails table line wrong = LineFails line wrong
    ⊎ (IsTwiceNamed table line wrong
    ⊎ (IsOneTooMany table line × IsWhole faults.TooManyJobs line wrong))

abbrev pub anacrontab : Kind Table JobFault
anacrontab = record { empty = no_lines; too_long = faults.TooLong; Adds = Adds; Fails = Fails }

-- the text is written as this table
abbrev pub IsAnacrontab : List ℕ → Table → Type 0
IsAnacrontab text table = IsTable anacrontab text table

-- a text is written as a table, or it has a fault
abbrev pub Meaning : Type 0
Meaning = tables.Meaning Table JobFault

abbrev pub Means : List ℕ → Meaning → Type 0
Means text meaning = tables.Means anacrontab text meaning

-- the fault that a call answered is the text's, unless memory ran out
abbrev pub IsFaultOf : List ℕ → TableFault JobFault → Type 0
IsFaultOf text fault = tables.IsFaultOf anacrontab text fault
