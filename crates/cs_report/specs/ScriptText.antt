-- The text of a script, and which scripts have one.
use Rattle.std.specs.Prelude.{ℕ, ◌-◌, Bool, true, false, not, ◌&&◌, ◌==◌, nat_le, nat_lt}
use Rattle.std.specs.Prelude.{if◌then◌else◌, List, [], ◌∷◌, ◌++◌, length, codes, flat_map, Option}
use Rattle.std.specs.Prelude.{Some, None}
use Rattle.std.specs.List.{list_all, list_any}
use Rattle.cs_civil.specs.Calendar.{last_day, last_minute}
use Rattle.cs_civil.specs.Text.{minute_text, day_text}
use Rattle.cs_history.specs.History.{Start as Opening}
use Rattle.cs_history.specs.Plan.{first_start}
use Rattle.cs_history.specs.Step.{is_civil}
use Rattle.cs_history.specs.declared.event.Event.{Event}
use Rattle.cs_history.specs.declared.event.Event.TheVariants.{Minute, Begin, Got, Catch, End, Down}
use Rattle.cs_history.specs.declared.event.Event.TheVariants.{Up}
use Rattle.cs_history.specs.declared.script.Script.{Script}
use Rattle.cs_anacrontab.specs.Anacrontab.{JobLine}
use Rattle.cs_plan.specs.JobNames.{command_name, identifier_of}
use Rattle.cs_plan.specs.Plan.{Declared, crons}
use Rattle.cs_report.specs.Reading.{is_word}

-- ---- texts

-- `line N` or `job ID`
unfoldable pub job_name : Declared → ℕ → List ℕ
job_name d j = if nat_lt j (crons d) then command_name d j else codes "job " ++ identifier_of d j

-- `YYYY-MM-DD HH:MM` after a space
abbrev pub at_minute : ℕ → List ℕ
at_minute t = 32 ∷ minute_text t

-- `YYYY-MM-DD` after a space
abbrev pub on_day : ℕ → List ℕ
on_day n = 32 ∷ day_text n

-- the line of an event, without its newline
abbrev pub event_text : Declared → Event → List ℕ
event_text d (Minute t) = codes "minute" ++ at_minute t
event_text d (Begin j) = codes "begin " ++ command_name d j
event_text d (Got j t) = codes "got " ++ (command_name d j ++ at_minute t)
event_text d (Catch j) = codes "catch " ++ identifier_of d j
event_text d (End r) = codes "end " ++ (job_name d r.job ++ at_minute r.at)
event_text d Down = codes "down"
event_text d (Up t) = codes "up" ++ at_minute t

abbrev pub event_line : Declared → Event → List ℕ
event_line d event = event_text d event ++ 10 ∷ []

abbrev pub start_side : Bool → List ℕ
start_side true = codes " up\n"
start_side false = codes " down\n"

-- `start DT up` or `start DT down`
abbrev pub start_line : Opening → List ℕ
start_line start = codes "start" ++ (at_minute start.now ++ start_side start.up)

-- `stamp ID YYYY-MM-DD` of a job with a stamp
abbrev pub stamp_line : JobLine → Option ℕ → List ℕ
stamp_line line None = []
stamp_line line (Some day) = codes "stamp " ++ (line.identifier ++ (on_day day ++ 10 ∷ []))

-- those of the jobs of an anacrontab, in order of line
unfoldable pub stamp_lines : List JobLine → List (Option ℕ) → List ℕ
stamp_lines [] stamps = []
stamp_lines (line ∷ lines) [] = []
stamp_lines (line ∷ lines) (stamp ∷ stamps) = stamp_line line stamp ++ stamp_lines lines stamps

-- the start, its stamps and the events, a line each
unfoldable pub script_text : Declared → Script → List ℕ
script_text d script =
    start_line script.start
    ++ (stamp_lines d.anacrontab.lines script.start.stamps
    ++ flat_map (event_line d) script.events)

-- ---- what can be named

-- one word of a line
unfoldable pub is_name : List ℕ → Bool
is_name text = is_word text && not (list_any (λ b. b == 10) text)

-- a job of the crontab
abbrev pub is_cron_name : Declared → ℕ → Bool
is_cron_name d j = nat_lt j (crons d)

-- a job of the anacrontab, whose identifier is a word
unfoldable pub is_anacron_name : Declared → ℕ → Bool
is_anacron_name d j = nat_le (crons d) j
    && (nat_lt (j - crons d) (length d.anacrontab.lines) && is_name (identifier_of d j))

-- either
unfoldable pub is_job_name : Declared → ℕ → Bool
is_job_name d j = if nat_lt j (crons d) then true else is_anacron_name d j

-- the event names a job of its kind and minutes in range
abbrev pub is_nameable_event : Declared → Event → Bool
is_nameable_event d (Minute t) = is_civil t
is_nameable_event d (Begin j) = is_cron_name d j
is_nameable_event d (Got j t) = is_cron_name d j && is_civil t
is_nameable_event d (Catch j) = is_anacron_name d j
is_nameable_event d (End r) = is_job_name d r.job && is_civil r.at
is_nameable_event d Down = true
is_nameable_event d (Up t) = is_civil t

-- no stamp, or one from 1970-01-02 to the last day of a job whose identifier is a word
abbrev pub is_nameable_stamp : JobLine → Option ℕ → Bool
is_nameable_stamp line None = true
is_nameable_stamp line (Some day) = nat_le 1 day && (nat_le day last_day && is_name line.identifier)

-- one place for each anacron job
unfoldable pub are_nameable_stamps : List JobLine → List (Option ℕ) → Bool
are_nameable_stamps [] [] = true
are_nameable_stamps [] (stamp ∷ stamps) = false
are_nameable_stamps (line ∷ lines) [] = false
are_nameable_stamps (line ∷ lines) (stamp ∷ stamps) =
    is_nameable_stamp line stamp && are_nameable_stamps lines stamps

-- the start is from 1970-01-04 to the last minute, its stamps can be named, and so can each event
unfoldable pub is_nameable : Declared → Script → Bool
is_nameable d script =
    nat_le first_start script.start.now
    && (nat_le script.start.now last_minute
    && (are_nameable_stamps d.anacrontab.lines script.start.stamps
    && list_all (is_nameable_event d) script.events))
