-- The time after which timeout(1) ends a command: `timeout [-k time] time command`.
use Rattle.std.specs.Prelude.{ℕ, List, length, codes, bytes_eq, drop, min, ◌+◌, ◌*◌, ◌^◌, ◌==◌, nat_le, Bool, false, ◌&&◌, ◌||◌, if◌then◌else◌, Option, None, Some, option_map, unwrap_or, not}
use Rattle.std.specs.Int.{div_ceil}
use Rattle.cs_table.specs.Text.{after, begins_with, decimal, front, is_digit, is_nothing}
use Rattle.std.specs.List.{list_any}
use Rattle.cs_table.specs.SettingReading.{◌>>=◌}
use Rattle.cs_history.specs.Plan.{waits_in}
use Rattle.cs_plan.specs.Plain.{is_possible_max}
use Rattle.cs_command.specs.Words.{behind_front, behind_all, behind_word, count_of, first_word, is_one_of, is_own, names_lock, word_at}
use Rattle.cs_command.specs.Locks.{call_in, is_program}
use Rattle.cs_command.specs.declared.named.Kind.TheVariants.{Leaves, Limits}

-- ---- durations: a number, with or without a point, and a unit

-- a million and more count as a million: a million seconds are more than eleven days
abbrev pub MOST : ℕ
MOST = 1_000_000

-- the seconds of a unit: `s` or none, `m` for minutes, `h` for hours, `d` for days
unfoldable pub unit_of : List ℕ → Option ℕ
unit_of suffix =
    if is_nothing suffix || bytes_eq suffix (codes "s") then Some 1
    else if bytes_eq suffix (codes "m") then Some 60
    else if bytes_eq suffix (codes "h") then Some 3_600
    else if bytes_eq suffix (codes "d") then Some 86_400
    else None

-- after a word's digits and a point
abbrev pub behind_whole : List ℕ → List ℕ
behind_whole word = drop (if begins_with 46 (after is_digit word) then 1 else 0)
    (after is_digit word)

-- the seconds of a number of units, rounded up, with the digits before and after its point
abbrev pub seconds_in : List ℕ → List ℕ → ℕ → ℕ
seconds_in whole decimals unit =
    min MOST (min MOST (decimal whole) * unit
    + div_ceil (min MOST (decimal decimals) * unit) (10 ^ length decimals))

-- digits, a point with at most six digits or none, and a unit
unfoldable pub seconds_of : List ℕ → Option ℕ
seconds_of word =
    if not (is_nothing (front is_digit word))
    && nat_le (length (front is_digit (behind_whole word))) 6
    then option_map (seconds_in (front is_digit word) (front is_digit (behind_whole word)))
    (unit_of (after is_digit (behind_whole word))) else None

-- after `-s` and a signal that ends a program
unfoldable pub behind_signal : List ℕ → List ℕ
behind_signal text =
    if bytes_eq (first_word text) (codes "-s")
    && is_one_of (codes "TERM INT KILL") (first_word (behind_word text))
    then behind_word (behind_word text) else text

-- the seconds until the signal KILL, 0 without `-k`, and what follows
abbrev pub kill_at : List ℕ → Option ℕ × List ℕ
kill_at text = if bytes_eq (first_word text) (codes "-k")
    then (seconds_of (first_word (behind_word text)), behind_word (behind_word text))
    else (Some 0, text)

-- from the duration on
abbrev pub behind_options : List ℕ → List ℕ
behind_options text = behind_signal (kill_at (behind_signal text)).1

-- Both times in whole minutes, rounded up, and one more for the end of the program. A run that
-- waits gets its lock within a minute, and takes that too. 0 seconds are no limit.
unfoldable pub limit_for : Bool → Option ℕ → Option ℕ → Option ℕ
limit_for waits seconds kill = seconds >>= λ s. if s == 0 then None
    else option_map (λ k. div_ceil (s + k) 60 + (if waits then 2 else 1)) kill

-- the limit in the words after `timeout`, if they run a program that may not leave it
unfoldable pub limit_of : Bool → List ℕ → Option ℕ
limit_of waits rest =
    if is_program (behind_word (behind_options rest)) && count_of Leaves rest == 0
    then limit_for waits (seconds_of (first_word (behind_options rest)))
    (kill_at (behind_signal rest)).0 else None

abbrev pub limit_at : Bool × List ℕ → Option ℕ
limit_at run = if is_one_of (codes "timeout /bin/timeout /usr/bin/timeout") (first_word run.1)
    then limit_of run.0 (behind_word run.1) else None

-- Whether the run waits for its lock, and what follows the lock's file; where no lock is named,
-- what follows settings, guards and nice(1). None with `%`, whose meaning differs between crontab
-- and anacrontab.
unfoldable pub run_in : List ℕ → Option (Bool × List ℕ)
run_in text =
    if list_any (λ b. b == 37) text then None
    else if names_lock text then option_map (λ call. (waits_in call.0.1, call.1)) (call_in text)
    else Some (false, behind_all behind_front text)

-- the program with plain words that it runs, after nice(1) and settings; none if it runs others
abbrev pub program_of : List ℕ → Option (List ℕ)
program_of text = run_in text >>= λ run. word_at (behind_all behind_front run.1) >>= λ word.
    if is_program (behind_all behind_front run.1) && (is_own word.0 && count_of Limits text == 0)
    then Some word.0 else None

-- the limit in minutes that the one timeout(1) of a text sets
unfoldable pub limit_in : List ℕ → Option ℕ
limit_in text = if count_of Limits text == 1 then run_in text >>= limit_at else None

-- the limit, if a job may have it
abbrev pub time_limit : List ℕ → Option ℕ
time_limit command =
    limit_in command >>= λ minutes. if is_possible_max minutes then Some minutes else None

-- the longest time of a run in minutes: that limit, else the asked one
abbrev pub asked_for : ℕ → List ℕ → ℕ
asked_for asked command = unwrap_or (time_limit command) asked
