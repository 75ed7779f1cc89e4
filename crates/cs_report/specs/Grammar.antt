-- How a script is written: each line, and all of them. Nothing here reads from left to right.
use Rattle.std.specs.Prelude.{◌≡◌, ◌≢◌, ℕ, ◌+◌, ◌≤◌, ◌⊎◌, Bool, true, false, not, ◌==◌, List, []}
use Rattle.std.specs.Prelude.{◌∷◌, ◌++◌, length, replicate, set, fold, map, AllPairs, codes, Option}
use Rattle.std.specs.Prelude.{Some, None}
use Rattle.cs_civil.specs.Calendar.{first_minute, last_minute, last_day}
use Rattle.cs_civil.specs.Text.{minute_text, day_text}
use Rattle.cs_table.specs.Text.{Are, lines_of, is_digit, decimal}
use Rattle.cs_history.specs.History.{Start as Opening, run_of}
use Rattle.cs_history.specs.Plan.{first_start}
use Rattle.cs_history.specs.declared.event.Event.{Event}
use Rattle.cs_history.specs.declared.event.Event.TheVariants as events
use Rattle.cs_history.specs.declared.script.Script.{Script}
use Rattle.cs_plan.specs.Plan.{Declared}
use Rattle.cs_report.specs.Names.{job_on, job_named, place_of}
use Rattle.cs_report.specs.declared.script.TheConstants.{MAX_SCRIPT}

-- ---- words

-- A word ends at a space and at nothing else.
abbrev pub is_word_byte : ℕ → Bool
is_word_byte b = not (b == 32)

abbrev pub IsWord : List ℕ → Type 0
IsWord text = Are is_word_byte text

abbrev pub IsNumber : List ℕ → Type 0
IsNumber text = Are is_digit text

-- two words, for a date and a time of the day
abbrev pub IsMoment : List ℕ → Type 0
IsMoment text = (date time : List ℕ) × (text ≡ date ++ 32 ∷ time) × IsWord date × IsWord time

-- ---- forms

-- the words of a line, whatever its date and its name are
pub data Form : Type 0 where
  Start : (moment : List ℕ) → (up : Bool) → Form
  Stamp : (identifier date : List ℕ) → Form
  Minute : (moment : List ℕ) → Form
  Up : (moment : List ℕ) → Form
  Down : Form
  Begin : (number : List ℕ) → Form
  Got : (number moment : List ℕ) → Form
  Catch : (identifier : List ℕ) → Form
  EndLine : (number moment : List ℕ) → Form
  EndJob : (identifier moment : List ℕ) → Form

abbrev pub side : Bool → List ℕ
side true = codes " up"
side false = codes " down"

-- one space between two words
abbrev pub form_text : Form → List ℕ
form_text (Start moment up) = codes "start " ++ (moment ++ side up)
form_text (Stamp identifier date) = codes "stamp " ++ (identifier ++ 32 ∷ date)
form_text (Minute moment) = codes "minute " ++ moment
form_text (Up moment) = codes "up " ++ moment
form_text Down = codes "down"
form_text (Begin number) = codes "begin line " ++ number
form_text (Got number moment) = codes "got line " ++ (number ++ 32 ∷ moment)
form_text (Catch identifier) = codes "catch " ++ identifier
form_text (EndLine number moment) = codes "end line " ++ (number ++ 32 ∷ moment)
form_text (EndJob identifier moment) = codes "end job " ++ (identifier ++ 32 ∷ moment)

-- each part is of its kind
abbrev pub IsWhole : Form → Type 0
IsWhole (Start moment up) = IsMoment moment
IsWhole (Stamp identifier date) = IsWord identifier × IsWord date
IsWhole (Minute moment) = IsMoment moment
IsWhole (Up moment) = IsMoment moment
IsWhole Down = Unit {0}
IsWhole (Begin number) = IsNumber number
IsWhole (Got number moment) = IsNumber number × IsMoment moment
IsWhole (Catch identifier) = IsWord identifier
IsWhole (EndLine number moment) = IsNumber number × IsMoment moment
IsWhole (EndJob identifier moment) = IsWord identifier × IsMoment moment

abbrev pub IsForm : List ℕ → Form → Type 0
IsForm line form = (line ≡ form_text form) × IsWhole form

-- ---- dates and names

-- the minute with this text, from 1970-01-02 00:00 to 9999-12-31 23:59
abbrev pub IsMinute : List ℕ → ℕ → Type 0
IsMinute text t = (text ≡ minute_text t) × (first_minute ≤ t) × (t ≤ last_minute)

-- the day with this text, from 1970-01-02 to 9999-12-31
abbrev pub IsDay : List ℕ → ℕ → Type 0
IsDay text day = (text ≡ day_text day) × (1 ≤ day) × (day ≤ last_day)

-- the minute or the day of a form's date: a start's is from 1970-01-04 on; any if it has none
abbrev pub HasDate : Form → ℕ → Type 0
HasDate (Start moment up) t = IsMinute moment t × (first_start ≤ t)
HasDate (Stamp identifier date) day = IsDay date day
HasDate (Minute moment) t = IsMinute moment t
HasDate (Up moment) t = IsMinute moment t
HasDate Down t = Unit {0}
HasDate (Begin number) t = Unit {0}
HasDate (Got number moment) t = IsMinute moment t
HasDate (Catch identifier) t = Unit {0}
HasDate (EndLine number moment) t = IsMinute moment t
HasDate (EndJob identifier moment) t = IsMinute moment t

-- the job that a form names, of a stamp its place in the anacrontab; any if it has no name
abbrev pub HasName : Declared → Form → ℕ → Type 0
HasName d (Start moment up) j = Unit {0}
HasName d (Stamp identifier date) place = place_of d identifier ≡ Some place
HasName d (Minute moment) j = Unit {0}
HasName d (Up moment) j = Unit {0}
HasName d Down j = Unit {0}
HasName d (Begin number) j = job_on d (decimal number) ≡ Some j
HasName d (Got number moment) j = job_on d (decimal number) ≡ Some j
HasName d (Catch identifier) j = job_named d identifier ≡ Some j
HasName d (EndLine number moment) j = job_on d (decimal number) ≡ Some j
HasName d (EndJob identifier moment) j = job_named d identifier ≡ Some j

-- ---- lines

pub data Entry : Type 0 where
  Starts : (t : ℕ) → (up : Bool) → Entry
  Stamps : (place day : ℕ) → Entry
  Happens : Event → Entry

-- the content of a form with this date and this job
abbrev pub entry : Form → ℕ → ℕ → Entry
entry (Start moment up) t j = Starts t up
entry (Stamp identifier date) day place = Stamps place day
entry (Minute moment) t j = Happens (events.Minute t)
entry (Up moment) t j = Happens (events.Up t)
entry Down t j = Happens events.Down
entry (Begin number) t j = Happens (events.Begin j)
entry (Got number moment) t j = Happens (events.Got j t)
entry (Catch identifier) t j = Happens (events.Catch j)
entry (EndLine number moment) t j = Happens (events.End (run_of j t))
entry (EndJob identifier moment) t j = Happens (events.End (run_of j t))

-- the form has this date, this name and this content
abbrev pub FormSays : Declared → Form → Entry → Type 0
FormSays d form x = (t j : ℕ) × HasDate form t × HasName d form j × (x ≡ entry form t j)

abbrev pub Says : Declared → List ℕ → Entry → Type 0
Says d line x = (form : Form) × IsForm line form × FormSays d form x

-- an empty line or a comment is ignored
abbrev pub IsIgnored : List ℕ → Type 0
IsIgnored line = (line ≡ []) ⊎ ((comment : List ℕ) × (line ≡ 35 ∷ comment))

-- the content of the lines that aren't ignored, each with its number, from this one on
abbrev pub AreLines : Declared → ℕ → List (List ℕ) → List (ℕ × Entry) → Type 0
AreLines d number [] said = said ≡ []
AreLines d number (line ∷ lines) said =
    (IsIgnored line × AreLines d (number + 1) lines said)
    ⊎ ((x : Entry) × (others : List (ℕ × Entry)) × Says d line x
    × AreLines d (number + 1) lines others × (said ≡ (number, x) ∷ others))

-- ---- scripts

-- a script, and the number of the line of each event
pub record Numbered : Type 0 where
  pub start : Opening
  pub events : List (ℕ × Event)

-- the place of a stamp's job in the anacrontab, its day, and the number of its line
pub record StampLine : Type 0 where
  pub number : ℕ
  pub place : ℕ
  pub day : ℕ

-- no stamp for any of this many jobs, and then these
abbrev pub days_of : ℕ → List StampLine → List (Option ℕ)
days_of jobs stamps = fold (λ days s. set days s.place (Some s.day)) (replicate jobs None) stamps

-- A start on line number comes first, then the stamps, each of another job, and then the events.
pub record AreEntriesOf (d : Declared) (said : List (ℕ × Entry)) (script : Numbered) : Type 0 where
  pub number : ℕ
  pub stamps : List StampLine
  pub order : said ≡ (number, Starts script.start.now script.start.up)
      ∷ (map (λ s. (s.number, Stamps s.place s.day)) stamps
      ++ map (λ e. (e.0, Happens e.1)) script.events)
  pub once : AllPairs (λ x y. x.place ≢ y.place) stamps
  pub days : script.start.stamps ≡ days_of (length d.anacrontab.lines) stamps

pub record IsScript (d : Declared) (text : List ℕ) (script : Numbered) : Type 0 where
  pub short : length text ≤ MAX_SCRIPT
  pub said : List (ℕ × Entry)
  pub lines : AreLines d 1 (lines_of text) said
  pub parts : AreEntriesOf d said script

-- without the numbers
abbrev pub plain : Numbered → Script
plain script = record { start = script.start; events = map (λ e. e.1) script.events }
