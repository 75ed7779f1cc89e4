-- The lines of starts.
use Rattle.std.specs.Prelude.{ℕ, ◌-◌, ◌/◌, ◌%◌, ◌==◌, Bool, List, [], ◌∷◌, ◌++◌, codes, flat_map, length, nat_lt, if◌then◌else◌, Option, None, Some, slice_get}
use Rattle.std.specs.Fmt.{decimal}
use Rattle.cs_civil.specs.Text.{minute_text}
use Rattle.cs_crontab.specs.Crontab.{CommandLine}
use Rattle.cs_anacrontab.specs.Anacrontab.{JobLine}
use Rattle.cs_place.specs.Places.{place_of, place_text}
use Rattle.cs_place.specs.Shown.{shown_text}
use Rattle.cs_place.specs.declared.places.Place.{Place}
use Rattle.cs_files.specs.declared.asked.Tables.{Tables}
use Rattle.cs_next.specs.declared.starts.Start.{Start}

abbrev pub minutes_text : ℕ → List ℕ
minutes_text n = decimal n ++ codes " min"

-- `5 min`, `2 h`, `2 h 5 min`, `1 day`, `3 days`
abbrev pub span_text : ℕ → List ℕ
span_text n =
    if nat_lt n 60 then minutes_text n
    else (if nat_lt n 1_440 then decimal (n / 60)
    ++ (codes " h" ++ (if n % 60 == 0 then [] else codes " " ++ minutes_text (n % 60)))
    else decimal (n / 1_440) ++ (if nat_lt n 2_880 then codes " day" else codes " days"))

abbrev pub line_command : Option CommandLine → List ℕ → List ℕ
line_command (Some line) other = line.command
line_command None other = other

abbrev pub job_command : Option JobLine → List ℕ
job_command (Some job) = job.command
job_command None = []

-- the command of a job: first those of the crontab, then those of the anacrontab
abbrev pub command_of : Tables → ℕ → List ℕ
command_of t job = line_command (slice_get t.crontab.lines job)
    (job_command (slice_get t.jobs.lines (job - length t.crontab.lines)))

abbrev pub placed : Option Place → ℕ → List ℕ
placed (Some place) line = place_text place
placed None line = codes "line " ++ decimal line

-- `line 3`, or where the line of a gathered table comes from
abbrev pub line_place : List Place → ℕ → List ℕ
line_place places line = placed (place_of places line) line

abbrev pub job_name : Option JobLine → List ℕ
job_name (Some job) = shown_text job.identifier
job_name None = []

abbrev pub place_in : List Place → Option CommandLine → List ℕ → List ℕ
place_in places (Some line) other = line_place places line.number
place_in places None other = other

-- `job ID` of an anacron job
abbrev pub job_place : Tables → ℕ → List ℕ
job_place t job = place_in t.places (slice_get t.crontab.lines job)
    (codes "job " ++ job_name (slice_get t.jobs.lines (job - length t.crontab.lines)))

unfoldable pub minute_shown : ℕ → List ℕ
minute_shown minute = minute_text minute

unfoldable pub when_line : ℕ → ℕ → List ℕ
when_line from minute =
    minute_shown minute ++ (codes ", in " ++ span_text (minute - from))

-- `2026-12-01 03:00, in 2 h 5 min, line 3: COMMAND`
unfoldable pub start_line : ℕ → Tables → Start → List ℕ
start_line from t start = when_line from start.minute ++ (codes ", " ++ (job_place t start.job
    ++ (codes ": " ++ (shown_text (command_of t start.job) ++ 10 ∷ []))))

abbrev pub end_text : Bool → List ℕ
end_text are_fewer = if are_fewer then codes "no further start in 28 years\n" else []

-- a line for each start, and one if there are fewer than asked for
abbrev pub starts_text : ℕ → Tables → ℕ → List Start → List ℕ
starts_text from t count starts =
    flat_map (start_line from t) starts ++ end_text (nat_lt (length starts) count)
