-- The files for the output of runs.
use Rattle.std.specs.Prelude.{◌≡◌, ℕ, ◌-◌, ◌&&◌, ◌||◌, ◌==◌, nat_eq, if◌then◌else◌, Bool, true, not, List, [], ◌++◌, length, map, take, drop, bytes_eq, slice_get, string_bytes, codes, Option, Some, None, option_map, unwrap_or, String}
use Rattle.std.specs.Char.{is_ascii_alphanumeric, is_ascii_digit}
use Rattle.std.specs.List.{find, list_all, slice_split, starts_with}
use Rattle.std.specs.List.Sorted.{IsPermutation, IsSorted}
use Rattle.std.specs.String.{string_cmp}
use Rattle.cs_machine.specs.StartText.{place_text}
use Rattle.cs_machine.specs.declared.setup.JobNote.{JobNote}

-- by its number from 0
abbrev pub word : List ℕ → ℕ → Option (List ℕ)
word run n = slice_get (slice_split (λ b. b == 32) run) n

abbrev pub dashed : ℕ → ℕ
dashed b = if b == 58 then 45 else b

-- what is no letter, digit, `.`, `_` or `-` becomes `_`
abbrev pub plain : ℕ → ℕ
plain b =
    if is_ascii_alphanumeric b || (b == 46 || (b == 95 || b == 45)) then b else 95

-- the name of a job of the crontab, at most 60 bytes of it
abbrev pub job_text : List ℕ → List ℕ → List ℕ
job_text kind name =
    if bytes_eq kind (codes "line") then codes "-" ++ map plain (take 60 name) else []

-- `2024-09-13T23-30-line-3-backup`, of these words and the job's name
abbrev pub named : Option (List ℕ) → Option (List ℕ) → Option (List ℕ) → Option (List ℕ)
    → List ℕ → Option (List ℕ)
named (Some day) (Some time) (Some kind) (Some job) name =
    Some (day ++ codes "T" ++ map dashed time ++ codes "-" ++ kind ++ codes "-" ++ job
    ++ job_text kind name)
named (Some day) (Some time) (Some kind) None name = None
named (Some day) (Some time) None job name = None
named (Some day) None kind job name = None
named None time kind job name = None

-- the name of the file of a run such as `line 3 due 2024-09-13 23:30`
abbrev pub output_name : List ℕ → List ℕ → Option (List ℕ)
output_name run name = named (word run 3) (word run 4) (word run 0) (word run 1) name

-- how the names of a job's runs begin, and its name
abbrev pub named_job : JobNote → List ℕ × List ℕ
named_job note = (note.front, note.name)

-- that of the first job whose front begins the run's name
abbrev pub name_in : List ℕ → List (List ℕ × List ℕ) → List ℕ
name_in run names =
    unwrap_or (option_map (λ n. n.1) (find (λ n. starts_with nat_eq run n.0) names)) []

-- a digit becomes `0`
abbrev pub zeroed : ℕ → ℕ
zeroed b = if is_ascii_digit b then 48 else b

abbrev pub is_moment : List ℕ → Bool
is_moment text = bytes_eq (map zeroed text) (codes "0000-00-00T00-00")

-- a file of the same job: a moment, and after it the same
abbrev pub is_of_job : List ℕ → List ℕ → Bool
is_of_job file name = is_moment (take 16 name) && bytes_eq (drop 16 name) (drop 16 file)

abbrev pub is_other_of : List ℕ → List ℕ → Bool
is_other_of file name = not (bytes_eq name file) && is_of_job file name

abbrev pub AreOthers : {Z : Type 0} → List ℕ → List (String Z) → Type 0
AreOthers {Z} file names = list_all (λ name. is_other_of file (string_bytes name)) names ≡ true

-- names in order, without the last ones, this many
abbrev pub AreFirst : {Z : Type 0} → ℕ → List (String Z) → List (String Z) → Type 0
AreFirst {Z} left names first =
    (sorted : List (String Z)) × IsPermutation names sorted × IsSorted string_cmp sorted
    × (first ≡ take (length sorted - left) sorted)

-- what is removed before this file is opened, so that at most so many of its job are kept
abbrev pub AreOld : {Z : Type 0} → List ℕ → ℕ → List (String Z) → Type 0
AreOld {Z} file keep old =
    (others : List (String Z)) × AreOthers file others × AreFirst (keep - 1) others old

abbrev pub output_text : List ℕ → List ℕ → List ℕ → List ℕ
output_text run folder why =
    codes "can't keep the output of " ++ run ++ place_text (Some folder) ++ codes ": " ++ why
