-- What `day` prints.
use Rattle.std.specs.Prelude.{ℕ, ◌+◌, ◌-◌, ◌*◌, ◌/◌, ◌%◌, ◌==◌, List, [], ◌∷◌, ◌++◌, flat_map, length, codes, decimal, if◌then◌else◌, nat_le}
use Rattle.cs_civil.specs.Calendar.{Kind, four_days, kind}
use Rattle.cs_civil.specs.Text.{two_digits, day_text, weekday_text}
use Rattle.cs_schedule.specs.Times.{Times}
use Rattle.cs_zone.specs.Starts.{is_due}
use Rattle.cs_zone.specs.Zone.{no_zone}
use Rattle.cs_schedule.specs.Minutes.{minutes_where}
use Rattle.cs_windows.specs.declared.window.Window.{Window}
use Rattle.cs_windows.specs.Windows.{Job, windows_on}

-- `HH:MM` of a minute of a day, `24:00` at its end
unfoldable pub clock : ℕ → List ℕ
clock minute = two_digits (minute / 60) ++ 58 ∷ two_digits (minute % 60)

-- ` the day before`, ` 2 days before`: nothing for the printed day itself
unfoldable pub days_apart : ℕ → List ℕ → List ℕ
days_apart days side =
    if days == 0 then []
    else (if days == 1 then codes " the day " ++ side
    else 32 ∷ (decimal days ++ (codes " days " ++ side)))

-- where a window begins
unfoldable pub start_text : Window → List ℕ
start_text w = clock w.from ++ days_apart w.day_back (codes "before")

-- where a window ends, by the first minute after it, counted from the start of the printed day
unfoldable pub end_text : ℕ → List ℕ
end_text end =
    if nat_le end 1440 then clock end
    else clock (end % 1440) ++ days_apart (end / 1440) (codes "after")

-- `  23:30 the day before to 00:30`
unfoldable pub window_text : Window → List ℕ
window_text w = codes "  "
    ++ (start_text w
    ++ (codes " to " ++ (end_text (w.from + w.reach - 1440 * w.day_back) ++ 10 ∷ [])))

-- `line 1: due 2`, where the line is due so often
unfoldable pub due_text : ℕ → ℕ → List ℕ
due_text number count = codes "line "
    ++ (decimal number ++ (codes ": due " ++ (decimal count ++ 10 ∷ [])))

-- `line 1: at reboot`
unfoldable pub reboot_text : ℕ → List ℕ
reboot_text number = codes "line " ++ (decimal number ++ codes ": at reboot\n")

-- a job whose runs last so long
abbrev pub job : Times → ℕ → Job Kind
job times max = record { begins = is_due no_zone times; lasts = max }

-- a command line: how often it is due, and the windows of its runs, those begun on earlier days
-- first
unfoldable pub job_text : ℕ → ℕ → ℕ → Times → List ℕ
job_text n max number times = due_text number (length (minutes_where (is_due no_zone times (kind n))))
    ++ flat_map window_text (windows_on (job times max ∷ []) (four_days n))

-- a blank, the weekday's name, and the end of the line
unfoldable pub weekday_part : ℕ → List ℕ
weekday_part dow = 32 ∷ (weekday_text dow ++ 10 ∷ [])

-- `2024-09-13 Fri`
unfoldable pub date_line : ℕ → List ℕ
date_line n = day_text n ++ weekday_part (kind n).dow

-- an anacron job whose runs last so long, and which may be started at each minute of [from, to) of
-- a day
abbrev pub catch_up : ℕ → ℕ → ℕ → Job Kind
catch_up from to max = record { begins = λ day minute. minute == from; lasts = to + max - 1 - from }

-- `job cron.daily: catch-up`
unfoldable pub identifier_line : List ℕ → List ℕ
identifier_line identifier = codes "job " ++ (identifier ++ codes ": catch-up\n")

-- an anacron job: the windows in which catch-up may occupy the machine
unfoldable pub catch_up_text : ℕ → ℕ → ℕ → ℕ → List ℕ → List ℕ
catch_up_text n max from to identifier =
    identifier_line identifier
    ++ flat_map window_text (windows_on (catch_up from to max ∷ []) (four_days n))
