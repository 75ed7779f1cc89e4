-- Runs that timeout(1) ends in time.
use Rattle.std.specs.Prelude.{◌≡◌, ◌⊎◌, ◌≤◌, ℕ, ◌+◌, ◌-◌, ◌*◌, nat_le, if◌then◌else◌, ℤ, pos, List, [], ◌∷◌, ◌++◌, codes, decimal, Option, Some, None, option_map}
use Rattle.cs_device.specs.declared.runner.Outcome.{Outcome}
use Rattle.cs_device.specs.declared.runner.Outcome.TheVariants.{Exited, Killed}
use Rattle.cs_machine.specs.Passing.{IsMoved}
use Rattle.cs_machine.specs.declared.limit.Limit.{Limit}

-- the whole seconds after this one until the minute begins, both since 1970-01-01 00:00 UTC
abbrev pub seconds_left : ℕ → ℕ → ℕ
seconds_left minute second = 60 * minute - (second + 1)

abbrev pub limit_at : ℕ → ℕ → Limit
limit_at second minute = record { begun = second; left = seconds_left minute second }

-- the limit of a run that starts in this second, and must have ended by that minute of a clock with
-- this offset
abbrev pub IsLimitOf : ℤ → Option ℕ → ℕ → Option Limit → Type 0
IsLimitOf offset until second limit =
    (minute : Option ℕ) × IsMoved offset until (pos 0) minute
    × (limit ≡ option_map (limit_at second) minute)

abbrev pub timeout : List ℕ
timeout = codes "/usr/bin/timeout"

-- after how many seconds timeout(1) ends a command: at least one, since 0 would be no limit
abbrev pub wait_of : ℕ → ℕ
wait_of left = if nat_le 7 left then left - 6 else 1

-- it asks the command to end, and kills it five seconds later; with fewer than seven seconds left,
-- it only kills it
abbrev pub limit_words : ℕ → List (List ℕ)
limit_words left =
    if nat_le 7 left then codes "-k" ∷ codes "5" ∷ decimal (left - 6) ∷ []
    else codes "-s" ∷ codes "KILL" ∷ codes "1" ∷ []

-- the words before a command line
abbrev pub limited : Option ℕ → List (List ℕ)
limited None = []
limited (Some left) = timeout ∷ limit_words left

-- with a limit, timeout(1) is started, and the program is one of its words
abbrev pub program_under : Option ℕ → List ℕ → List ℕ
program_under None program = program
program_under (Some left) program = timeout

abbrev pub words_under : Option ℕ → List ℕ → List (List ℕ)
words_under None program = []
words_under (Some left) program = limit_words left ++ program ∷ []

-- timeout(1) has ended the command by this second; two clocks may differ by one
abbrev pub IsUp : Limit → ℕ → Type 0
IsUp limit second = limit.begun + wait_of limit.left ≤ second + 1

-- how timeout(1) ends, and the run's status for it: KILL ends timeout(1) as well
abbrev pub EndsAs : Outcome → Outcome → Type 0
EndsAs outcome end =
    ((outcome ≡ Exited (pos 124)) × (end ≡ Exited (pos 124)))
    ⊎ (((outcome ≡ Exited (pos 137)) ⊎ (outcome ≡ Killed (pos 9))) × (end ≡ Exited (pos 137)))

abbrev pub limit_line : List ℕ → List ℕ
limit_line run = run ++ codes " was ended at its limit"
