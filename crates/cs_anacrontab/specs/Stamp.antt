-- The text of a stamp file (anacron(8)).
use Rattle.std.specs.Prelude.{ℕ, ◌≡◌, ◌⊎◌, List, [], ◌∷◌, ◌++◌}
use Rattle.cs_civil.specs.Calendar.{CivilDate, date_of}
use Rattle.cs_civil.specs.Text.{two_digits, four_digits}

-- `YYYYMMDD`
abbrev pub date_digits : CivilDate → List ℕ
date_digits d = four_digits d.year ++ two_digits d.month ++ two_digits d.dom

-- the digits of the day's date, and a newline
abbrev pub stamp_text : ℕ → List ℕ
stamp_text n = date_digits (date_of n) ++ 10 ∷ []

-- the digits of a date, with or without a newline
abbrev pub HasDigits : List ℕ → CivilDate → Type 0
HasDigits text d = (text ≡ date_digits d) ⊎ (text ≡ date_digits d ++ 10 ∷ [])

abbrev pub IsStampText : List ℕ → ℕ → Type 0
IsStampText text n = HasDigits text (date_of n)
