-- What a line denotes, or its first fault from left to right.
use Rattle.std.specs.Prelude.{◌≡◌, ℕ, Bool, false, not, ◌&&◌, ◌||◌, ◌==◌, nat_eq, nat_lt, if◌then◌else◌, List, [], ◌∷◌, length, drop, codes, Option, Some, None, Result, Ok, Err}
use Rattle.std.specs.List.{list_any, list_all, ends_with}
use Rattle.std.specs.Str.{bytes_eq, is_utf8}
use Rattle.cs_table.specs.declared.limits.TheConstants.{MAX_LINE}
use Rattle.cs_table.specs.Setting.{begins_setting}
use Rattle.cs_table.specs.Text.{front, after, is_blank, is_solid, is_digit, decimal, is_nothing}
use Rattle.cs_table.specs.SettingReading.{setting_of}
use Rattle.cs_table.specs.declared.fault.Wrong.{Wrong}
use Rattle.cs_table.specs.Wrong.{◌>>=◌, at_end, at_front, at_nul, last_byte, whole, marked}
use Rattle.cs_anacrontab.specs.declared.limits.TheConstants.{MAX_PERIOD, MAX_DELAY, MAX_IDENTIFIER}
use Rattle.cs_anacrontab.specs.declared.period.Period.{Period}
use Rattle.cs_anacrontab.specs.declared.period.Period.TheVariants.{Days, Monthly}
use Rattle.cs_anacrontab.specs.declared.fault.JobFault.{JobFault}
use Rattle.cs_anacrontab.specs.declared.fault.JobFault.TheVariants as faults
use Rattle.cs_anacrontab.specs.Anacrontab.{Entry, Nothing, Setting, Job}

-- a number that is all of the word, in digits, up to the highest
unfoldable pub number_of : ℕ → List ℕ → Option ℕ
number_of high word =
    if is_nothing word || not (list_all is_digit word) then None
    else if nat_lt high (decimal word) then None
    else Some (decimal word)

abbrev pub period_of_word : List ℕ → Option Period
period_of_word word =
    if bytes_eq word (codes "daily") then Some (Days 1)
    else if bytes_eq word (codes "weekly") then Some (Days 7)
    else if bytes_eq word (codes "monthly") then Some Monthly
    else None

abbrev pub or_fault : {A : Type 0} → JobFault → Option A → Result A JobFault
or_fault fault None = Err fault
or_fault fault (Some x) = Ok x

-- no days are no period
abbrev pub days_of : Option ℕ → Option Period
days_of None = None
days_of (Some n) = if nat_lt n 1 then None else Some (Days n)

unfoldable pub period_of : List ℕ → Result Period JobFault
period_of [] = Err faults.BadPeriod
period_of (b ∷ bs) =
    if b == 64 then or_fault faults.UnknownWord (period_of_word bs)
    else or_fault faults.BadPeriod (days_of (number_of MAX_PERIOD (b ∷ bs)))

-- `.` and `..` name folders
abbrev pub is_folder : List ℕ → Bool
is_folder word = bytes_eq word (codes ".") || bytes_eq word (codes "..")

unfoldable pub is_identifier : List ℕ → Bool
is_identifier word =
    if nat_lt MAX_IDENTIFIER (length word) || list_any (λ b. b == 47) word then false
    else not (is_folder word) && is_utf8 word

abbrev pub behind_word : List ℕ → List ℕ
behind_word text = after is_blank (after is_solid text)

-- the next word, and the text from the word after it on
unfoldable pub word_at : List ℕ → Result (List ℕ × List ℕ) (Wrong JobFault)
word_at text = if is_nothing text then Err (at_end faults.MissingField)
    else Ok (front is_solid text, behind_word text)

-- a job with a good identifier, which begins the text, and a command
abbrev pub completed : Period → ℕ → List ℕ → List ℕ → List ℕ → Result Entry (Wrong JobFault)
completed period delay text identifier command =
    if not (is_identifier identifier) then Err (at_front faults.BadIdentifier text identifier)
    else if is_nothing command then Err (at_end faults.MissingField)
    else Ok (Job period delay identifier command)

unfoldable pub job_of : List ℕ → Result Entry (Wrong JobFault)
job_of text = do
  first ← word_at text
  period ← marked (length text) (length first.0) (period_of first.0)
  second ← word_at first.1
  delay ← marked (length first.1) (length second.0)
      (or_fault faults.BadDelay (number_of MAX_DELAY second.0))
  third ← word_at second.1
  completed period delay second.1 third.0 third.1

abbrev pub set : List ℕ → Option (List ℕ × List ℕ) → Result Entry (Wrong JobFault)
set text None = Err (whole faults.BadSetting text)
set text (Some setting) = Ok (Setting setting.0 setting.1)

abbrev pub is_continued : List ℕ → Bool
is_continued text = ends_with nat_eq text (92 ∷ [])

-- what a line says after its leading blanks
unfoldable pub entry_of : List ℕ → Result Entry (Wrong JobFault)
entry_of [] = Ok Nothing
entry_of (b ∷ bs) =
    if b == 35 then Ok Nothing
    else if is_continued (b ∷ bs) then Err (last_byte faults.Continued)
    else if begins_setting b then set (b ∷ bs) (setting_of (b ∷ bs))
    else job_of (b ∷ bs)

unfoldable pub line_of : List ℕ → Result Entry (Wrong JobFault)
line_of line =
    if nat_lt MAX_LINE (length line) then Err (whole faults.TooLong (drop MAX_LINE line))
    else if list_any (λ b. b == 0) line then Err (at_nul faults.NulByte line)
    else entry_of (after is_blank line)
