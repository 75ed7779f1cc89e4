-- The longest times of jobs, as `learn` prints them and `draft` reads them.
use Rattle.std.specs.Prelude.{ℕ, ◌+◌, ◌-◌, ◌^◌, min, Bool, true, false, ◌&&◌, ◌==◌, nat_le, bytes_eq, if◌then◌else◌, List, [], ◌∷◌, ◌++◌, codes, Option, Some, None, option_map, Result, Ok, Err}
use Rattle.std.specs.List.{find, list_any}
use Rattle.std.specs.Result.{result_flatten, result_map_both, result_ok}
use Rattle.cs_table.specs.SettingReading.{◌>>=◌, quoted_at}
use Rattle.cs_table.specs.Text.{lines_of}
use Rattle.cs_crontab.specs.Crontab.{CommandLine}
use Rattle.cs_anacrontab.specs.Anacrontab.{JobLine}
use Rattle.cs_retrace.specs.Words.{number_of}
use Rattle.cs_retrace.specs.declared.maxes.Given.{Given}
use Rattle.cs_retrace.specs.declared.maxes.JobName.{JobName}
use Rattle.cs_retrace.specs.declared.maxes.JobName.TheVariants.{Identifier, Line as OfLine}
use Rattle.cs_retrace.specs.declared.maxes.MaxFault.{MaxFault}
use Rattle.cs_retrace.specs.declared.maxes.MaxFault.TheVariants.{Shape, Range, Twice}
use Rattle.cs_retrace.specs.declared.maxes.TheConstants.{LONGEST_MAX}

-- a number and the two words before it, with blanks between
unfoldable pub words_in : List ℕ → Option (List ℕ × List ℕ × ℕ)
words_in text = do
  first ← quoted_at 32 text
  parts ← quoted_at 32 first.1
  max ← number_of parts.1
  Some (first.0, parts.0, max)

-- `line 3`: the job on that line of the crontab; `job cron.daily`: that of the anacrontab
abbrev pub name_in : List ℕ → List ℕ → Option JobName
name_in kind name = if bytes_eq kind (codes "job") then Some (Identifier name)
    else if bytes_eq kind (codes "line") then option_map (λ number. OfLine number) (number_of name)
    else None

-- `line 3 25`, `job cron.daily 25`: a job, and its longest time in minutes
unfoldable pub max_in : List ℕ → Option (JobName × ℕ)
max_in text = do
  words ← words_in text
  option_map (λ name. (name, words.2)) (name_in words.0 words.1)

-- two names of one job
abbrev pub is_same : JobName → JobName → Bool
is_same (OfLine m) (OfLine n) = m == n
is_same (Identifier a) (Identifier b) = bytes_eq a b
is_same a b = false

-- the tables have the job
abbrev pub has_job : List CommandLine → List JobLine → JobName → Bool
has_job lines jobs (OfLine number) = list_any (λ line. line.number == number) lines
has_job lines jobs (Identifier id) = list_any (λ job. bytes_eq job.identifier id) jobs

-- An empty line gives none, and neither does one that begins with `#`.
abbrev pub is_quiet : List ℕ → Bool
is_quiet [] = true
is_quiet (b ∷ bs) = b == 35

-- a longest time is given for this job
abbrev pub is_given : List Given → JobName → Bool
is_given given name = list_any (λ g. is_same g.name name) given

-- and which one
abbrev pub max_of : List Given → JobName → Option ℕ
max_of given name = option_map (λ g. g.max) (find (λ g. is_same g.name name) given)

-- What a line at that place gives after others: a longest time from 1 to 4,320 minutes, the first
-- for its job; or what is wrong with it.
abbrev pub one_of : ℕ → List Given → Option (JobName × ℕ) → Result Given MaxFault
one_of place given None = Err Shape
one_of place given (Some (name, max)) =
    if nat_le 1 max && nat_le max LONGEST_MAX
    then if is_given given name then Err (Twice name)
    else Ok (record { place = place; name = name; max = max })
    else Err (Range name)

-- lines with their places, from that one on
unfoldable pub numbered : ℕ → List (List ℕ) → List (ℕ × List ℕ)
numbered place [] = []
numbered place (line ∷ lines) = (place, line) ∷ numbered (min (place + 1) (2 ^ 64 - 1)) lines

-- what such lines give after others; or the place of the first that has a fault, and which one
unfoldable pub given_by : List Given → List (ℕ × List ℕ) → Result (List Given) (ℕ × MaxFault)
given_by given [] = Ok given
given_by given (line ∷ lines) =
    if is_quiet line.1 then given_by given lines
    else result_flatten (result_map_both (λ one. given_by (given ++ one ∷ []) lines)
    (λ fault. (line.0, fault)) (one_of line.0 given (max_in line.1)))

-- what a text gives, or its first fault
abbrev pub read_in : List ℕ → Result (List Given) (ℕ × MaxFault)
read_in text = given_by [] (numbered 1 (lines_of text))

-- and where it has none
abbrev pub given_in : List ℕ → Option (List Given)
given_in text = result_ok (read_in text)
