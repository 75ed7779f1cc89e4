-- The form of a line, read from left to right.
use Rattle.std.specs.Prelude.{ℕ, ◌-◌, Bool, true, false, not, ◌&&◌, ◌==◌, nat_eq, if◌then◌else◌}
use Rattle.std.specs.Prelude.{List, [], ◌∷◌, length, take, codes, Option, Some, None}
use Rattle.std.specs.List.{list_all, ends_with}
use Rattle.std.specs.Str.{bytes_eq}
use Rattle.cs_table.specs.Text.{front, after, is_digit}
use Rattle.cs_report.specs.Grammar.{is_word_byte, Form, Start, Stamp, Minute, Up, Down, Begin, Got}
use Rattle.cs_report.specs.Grammar.{Catch, EndLine, EndJob}

infixl 10 ◌>>=◌
abbrev pub ◌>>=◌ : {A B : Type 0} → Option A → (A → Option B) → Option B
None >>= f = None
(Some x) >>= f = f x

-- ---- words

abbrev pub is_nothing : List ℕ → Bool
is_nothing text = length text == 0

abbrev pub parted : List ℕ → List ℕ → Option (List ℕ × List ℕ)
parted word [] = None
parted word (space ∷ bs) = if is_nothing word then None else Some (word, bs)

-- the first word, and the text after the space after it
unfoldable pub first_word : List ℕ → Option (List ℕ × List ℕ)
first_word text = parted (front is_word_byte text) (after is_word_byte text)

-- a word and nothing after it
unfoldable pub is_word : List ℕ → Bool
is_word text = not (is_nothing text) && list_all is_word_byte text

-- one digit or more
unfoldable pub is_number : List ℕ → Bool
is_number text = not (is_nothing text) && list_all is_digit text

abbrev pub is_word_behind : Option (List ℕ × List ℕ) → Bool
is_word_behind None = false
is_word_behind (Some parts) = is_word parts.1

-- two words
unfoldable pub is_moment : List ℕ → Bool
is_moment text = is_word_behind (first_word text)

-- ---- forms

abbrev pub start_at : List ℕ → Bool → Option Form
start_at moment up = if is_moment moment then Some (Start moment up) else None

-- `DT up` or `DT down` after `start`
unfoldable pub start_form : List ℕ → Option Form
start_form text =
    if ends_with nat_eq text (codes " up") then start_at (take (length text - 3) text) true
    else if ends_with nat_eq text (codes " down") then start_at (take (length text - 5) text) false
    else None

-- `ID YYYY-MM-DD` after `stamp`
unfoldable pub stamp_form : List ℕ → Option Form
stamp_form text = do
  parts ← first_word text
  if is_word parts.1 then Some (Stamp parts.0 parts.1) else None

-- `DT` after `minute` or `up`
abbrev pub minute_form : List ℕ → Option Form
minute_form text = if is_moment text then Some (Minute text) else None

abbrev pub up_form : List ℕ → Option Form
up_form text = if is_moment text then Some (Up text) else None

-- `line N` after `begin`
unfoldable pub begin_form : List ℕ → Option Form
begin_form text = do
  parts ← first_word text
  if bytes_eq parts.0 (codes "line") && is_number parts.1 then Some (Begin parts.1) else None

-- `N DT` after `line`
unfoldable pub line_run : List ℕ → Option (List ℕ × List ℕ)
line_run text = do
  parts ← first_word text
  if is_number parts.0 && is_moment parts.1 then Some parts else None

-- `ID DT` after `job`
unfoldable pub job_run : List ℕ → Option (List ℕ × List ℕ)
job_run text = do
  parts ← first_word text
  if is_moment parts.1 then Some parts else None

-- `line N DT` after `got`
abbrev pub got_run : List ℕ → List ℕ → Option Form
got_run kind text =
    if bytes_eq kind (codes "line") then line_run text >>= (λ run. Some (Got run.0 run.1))
    else None

unfoldable pub got_form : List ℕ → Option Form
got_form text = do
  parts ← first_word text
  got_run parts.0 parts.1

-- `ID` after `catch`
abbrev pub catch_form : List ℕ → Option Form
catch_form text = if is_word text then Some (Catch text) else None

-- `line N DT` or `job ID DT` after `end`
abbrev pub ended : List ℕ → List ℕ → Option Form
ended kind text =
    if bytes_eq kind (codes "line") then line_run text >>= (λ run. Some (EndLine run.0 run.1))
    else if bytes_eq kind (codes "job") then job_run text >>= (λ run. Some (EndJob run.0 run.1))
    else None

unfoldable pub end_form : List ℕ → Option Form
end_form text = do
  parts ← first_word text
  ended parts.0 parts.1

-- a form by its first word and the rest
unfoldable pub form_behind : List ℕ → List ℕ → Option Form
form_behind verb text =
    if bytes_eq verb (codes "start") then start_form text
    else if bytes_eq verb (codes "stamp") then stamp_form text
    else if bytes_eq verb (codes "minute") then minute_form text
    else if bytes_eq verb (codes "up") then up_form text
    else if bytes_eq verb (codes "begin") then begin_form text
    else if bytes_eq verb (codes "got") then got_form text
    else if bytes_eq verb (codes "catch") then catch_form text
    else if bytes_eq verb (codes "end") then end_form text
    else None

unfoldable pub form_of : List ℕ → Option Form
form_of line =
    if bytes_eq line (codes "down") then Some Down
    else first_word line >>= (λ parts. form_behind parts.0 parts.1)
