-- The runs that a daemon lists for the next one, and their processes.
use Rattle.std.specs.Prelude.{◌≡◌, ◌==◌, ◌||◌, ℕ, Bool, false, true, not, bytes_eq, List, [], ◌∷◌, ◌++◌, codes, flat_map, slice_get, Option, Some, None}
use Rattle.std.specs.List.{list_any, slice_split}
use Rattle.cs_table.specs.Text.{lines_of}
use Rattle.cs_table.specs.SettingReading.{◌>>=◌}
use Rattle.cs_machine.specs.declared.listed_run.ListedRun.{ListedRun}

-- ---- a process, by /proc/PID/stat (proc(5))

-- the fields after a program's name: 1 is the state, 20 the start time
abbrev pub stat_field : List ℕ → ℕ → Option (List ℕ)
stat_field behind n = slice_get (slice_split (λ b. b == 32) behind) n

-- a program's name may hold blanks and brackets, so the last bracket counts
abbrev pub IsStat : List ℕ → List ℕ → List ℕ → Type 0
IsStat text state start = (name : List ℕ) × (behind : List ℕ)
    × (text ≡ name ++ codes ")" ++ behind) × (list_any (λ b. b == 41) behind ≡ false)
    × (stat_field behind 1 ≡ Some state) × (stat_field behind 20 ≡ Some start)

-- a zombie, or dead
abbrev pub is_over : List ℕ → Bool
is_over state = bytes_eq state (codes "Z") || bytes_eq state (codes "X")

-- the process that started then has ended: its state says so, or another one has its number
abbrev pub HasGone : List ℕ → List ℕ → Type 0
HasGone start text = (state : List ℕ) × (began : List ℕ) × IsStat text state began
    × ((is_over state || not (bytes_eq began start)) ≡ true)

-- ---- the list

-- a process's number, its start time, the boot of the machine and the run's name
abbrev pub run_line : ListedRun → List ℕ
run_line run = run.process ++ codes "\t" ++ run.start ++ codes "\t" ++ run.boot ++ codes "\t"
    ++ run.name ++ codes "\n"

abbrev pub list_text : List ListedRun → List ℕ
list_text runs = flat_map run_line runs

abbrev pub list_field : List ℕ → ℕ → Option (List ℕ)
list_field line n = slice_get (slice_split (λ b. b == 9) line) n

unfoldable pub listed_on : List ℕ → Option ListedRun
listed_on line = do
  process ← list_field line 0
  start ← list_field line 1
  boot ← list_field line 2
  name ← list_field line 3
  Some (record { process = process; start = start; boot = boot; name = name })

abbrev pub with_one : List ListedRun → Option ListedRun → List ListedRun
with_one runs None = runs
with_one runs (Some run) = runs ++ run ∷ []

-- lines that list no run are ignored
unfoldable pub listed_by : List ListedRun → List (List ℕ) → List ListedRun
listed_by runs [] = runs
listed_by runs (line ∷ lines) = listed_by (with_one runs (listed_on line)) lines

abbrev pub listed_in : List ℕ → List ListedRun
listed_in text = listed_by [] (lines_of text)

abbrev pub left_text : ListedRun → List ℕ
left_text run = run.name ++ codes ", process " ++ run.process
