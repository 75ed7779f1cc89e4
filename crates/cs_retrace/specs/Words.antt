-- Parts of a line of a log.
use Rattle.std.specs.Prelude.{ℕ, Bool, not, ◌||◌, nat_lt, nat_eq, if◌then◌else◌, List, length, drop, Option, Some, None}
use Rattle.std.specs.List.{list_all, starts_with}
use Rattle.cs_table.specs.Text.{is_digit, is_nothing, decimal}

-- what follows these bytes, where the text begins with them
unfoldable pub behind : List ℕ → List ℕ → Option (List ℕ)
behind start text =
    if starts_with nat_eq text start then Some (drop (length start) text) else None

-- the number in decimal digits, at most 999,999,999,999
unfoldable pub number_of : List ℕ → Option ℕ
number_of text =
    if is_nothing text || not (list_all is_digit text) || nat_lt 999_999_999_999 (decimal text)
    then None else Some (decimal text)

-- a value, where the test passes
abbrev pub if_so : {A : Type 0} → Bool → A → Option A
if_so test x = if test then Some x else None
