-- A user's entry: name, password, number, group, comment, folder and shell (passwd(5)).
use Rattle.std.specs.Prelude.{ℕ, List, ◌==◌, ◌&&◌, Bool, false, length, slice_get, bytes_eq, decimal, Option, Some, None, option_and_then}
use Rattle.std.specs.List.{find, slice_split}
use Rattle.cs_machine.specs.declared.home.Home.{Home}

abbrev pub lines_of : List ℕ → List (List ℕ)
lines_of text = slice_split (λ b. b == 10) text

abbrev pub fields_of : List ℕ → List (List ℕ)
fields_of line = slice_split (λ b. b == 58) line

-- a field, by its number from 0
abbrev pub field : List ℕ → ℕ → Option (List ℕ)
field line n = slice_get (fields_of line) n

abbrev pub is_same : List ℕ → Option (List ℕ) → Bool
is_same wanted None = false
is_same wanted (Some field) = bytes_eq field wanted

-- the line has so many fields, and the one at that place is this
abbrev pub is_entry : ℕ → ℕ → List ℕ → List ℕ → Bool
is_entry fields place wanted line =
    length (fields_of line) == fields && is_same wanted (field line place)

abbrev pub home_by : Option (List ℕ) → Option (List ℕ) → Option Home
home_by (Some user) (Some folder) = Some (record { user = user; folder = folder })
home_by (Some user) None = None
home_by None folder = None

abbrev pub home_on : List ℕ → Option Home
home_on line = home_by (field line 0) (field line 5)

-- the name and the folder in the first entry with that number
abbrev pub home_of : ℕ → List ℕ → Option Home
home_of user text = option_and_then home_on (find (is_entry 7 2 (decimal user)) (lines_of text))
