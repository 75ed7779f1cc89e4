-- Where the commands of a gathered table come from, by the comments above them.
use Rattle.std.specs.Prelude.{ℕ, ◌+◌, Bool, not, ◌&&◌, ◌||◌, ◌==◌, nat_eq, nat_lt, if◌then◌else◌, List, [], ◌∷◌, ◌++◌, length, drop, reverse, Option, Some, None, codes, decimal}
use Rattle.std.specs.Char.{is_ascii_alphanumeric}
use Rattle.std.specs.List.{find, list_all, list_any, starts_with}
use Rattle.cs_table.specs.SettingReading.{trimmed}
use Rattle.cs_table.specs.Text.{lines_of, after, is_solid}
use Rattle.cs_crontab.specs.Crontab.{CommandLine, Table}
use Rattle.cs_place.specs.Mark.{is_gathered}
use Rattle.cs_place.specs.Shown.{shown_text}
use Rattle.cs_place.specs.declared.places.Place.{Place}

-- ---- what a comment says

-- a text without its last word, and that word
unfoldable pub before_word : List ℕ → List ℕ
before_word text = reverse (after is_solid (reverse text))

abbrev pub last_word : List ℕ → List ℕ
last_word text = drop (length (before_word text)) text

abbrev pub is_control : ℕ → Bool
is_control b = nat_lt b 32 || b == 127

-- `NAME:LINE USER` has a colon, a user, and no control byte
abbrev pub is_place : List ℕ → Bool
is_place text = list_any (λ b. b == 58) (before_word text)
    && (not (length (last_word text) == 0) && not (list_any is_control text))

-- a letter, a digit, `_` or `-`
abbrev pub is_name_byte : ℕ → Bool
is_name_byte byte = is_ascii_alphanumeric byte || ((byte == 95) || (byte == 45))

-- run-parts(8) runs a program of such a name, and cron(8) reads such a table
abbrev pub is_part_name : List ℕ → Bool
is_part_name name = not (length name == 0) && list_all is_name_byte name

-- the name of a part in the comment `#@ part NAME`
unfoldable pub part_in : List ℕ → Option (List ℕ)
part_in comment =
    if starts_with nat_eq comment (codes "#@ part ") && is_part_name (drop 8 comment)
    then Some (drop 8 comment)
    else None

abbrev pub with_part : Option (List ℕ) → List (List ℕ) → List (List ℕ)
with_part None names = []
with_part (Some name) names = name ∷ names

-- the parts in the comments that the lines begin with
unfoldable pub parts_in : List (List ℕ) → List (List ℕ)
parts_in [] = []
parts_in (line ∷ lines) = with_part (part_in line) (parts_in lines)

-- the place of the first line after the comments with parts; `number` is that of the first comment
abbrev pub place_at : ℕ → List ℕ → List (List ℕ) → Place
place_at number text lines = record {
  line = number + length (parts_in lines);
  origin = trimmed (before_word text);
  user = last_word text;
  parts = parts_in lines;
}

-- the place that the comment `#@ NAME:LINE USER` gives a line below; `number` is that of the first
-- line below
unfoldable pub place_in : ℕ → List ℕ → List (List ℕ) → Option Place
place_in number [] lines = None
place_in number (a ∷ []) lines = None
place_in number (a ∷ b ∷ []) lines = None
place_in number (a ∷ b ∷ c ∷ text) lines =
    if (a == 35 && (b == 64 && c == 32)) && is_place text
    then Some (place_at number text lines)
    else None

-- ---- the places of a table

abbrev pub listed : Option Place → List Place
listed None = []
listed (Some place) = place ∷ []

-- `number` is that of the line below the first of these lines
unfoldable pub places_from : ℕ → List (List ℕ) → List Place
places_from number [] = []
places_from number (line ∷ lines) =
    listed (place_in number line lines) ++ places_from (number + 1) lines

-- A table that wasn't gathered has no places, whatever its comments say.
abbrev pub places_of : List ℕ → Table → List Place
places_of text table =
    if is_gathered table.settings then places_from 2 (lines_of text) else []

-- ---- the text of places

-- `/etc/cron.d/munin:12 (munin)`
unfoldable pub place_text : Place → List ℕ
place_text place = place.origin ++ (codes " (" ++ (place.user ++ codes ")"))

-- `line 14 is /etc/cron.d/munin:12 (munin): COMMAND`
unfoldable pub place_line : Place → List ℕ → List ℕ
place_line place command = codes "line " ++ (decimal place.line ++ (codes " is "
    ++ (place_text place ++ (codes ": " ++ (shown_text command ++ 10 ∷ [])))))

abbrev pub line_told : List ℕ → Bool → Option Place → List ℕ → List ℕ
line_told front told None command = []
line_told front told (Some place) command = if told then front ++ place_line place command else []

-- the place of a line, if it has one
abbrev pub place_of : List Place → ℕ → Option Place
place_of places number = find (λ place. place.line == number) places

abbrev pub is_among : List ℕ → ℕ → Bool
is_among jobs job = list_any (λ j. j == job) jobs

-- the places of those lines that are among the jobs, in order of line; `job` is the number of the
-- first line, from 0
unfoldable pub places_told : List ℕ → List Place → List ℕ → ℕ → List CommandLine → List ℕ
places_told front places jobs job [] = []
places_told front places jobs job (line ∷ lines) =
    line_told front (is_among jobs job) (place_of places line.number) line.command
    ++ places_told front places jobs (job + 1) lines
