-- The max of a job: its longest run times a factor, in whole minutes.
use Rattle.std.specs.Prelude.{ℕ, ◌+◌, ◌*◌, ◌≤◌, ◌&&◌, ◌==◌, nat_le, ◌/◌, if◌then◌else◌, List, length, Option, Some, None}
use Rattle.cs_table.specs.SettingReading.{◌>>=◌, quoted_at}
use Rattle.cs_retrace.specs.Words.{number_of, if_so}

-- one or two digits after the point, in hundredths
unfoldable pub hundredths_in : List ℕ → Option ℕ
hundredths_in text = do
  number ← number_of text
  if length text == 1 then Some (number * 10) else if_so (length text == 2) number

-- a factor in hundredths: `2`, `1.5` or `1.25`
abbrev pub in_hundredths : List ℕ → Option (List ℕ × List ℕ) → Option ℕ
in_hundredths text None = do
  whole ← number_of text
  Some (whole * 100)
in_hundredths text (Some parts) = do
  whole ← number_of parts.0
  hundredths ← hundredths_in parts.1
  Some (whole * 100 + hundredths)

-- a factor from 1 to 10, in hundredths
unfoldable pub factor_in : List ℕ → Option ℕ
factor_in text = do
  factor ← in_hundredths text (quoted_at 46 text)
  if_so (nat_le 100 factor && nat_le factor 1_000) factor

-- the whole minutes of so many seconds, and one more
abbrev pub least : ℕ → ℕ
least seconds = seconds / 60 + 1

-- So many minutes are enough for the longest run if they are at least its seconds times the factor,
-- and more than its whole minutes and those since a start without an end.
pub record IsEnough (longest since factor minutes : ℕ) : Type 0 where
  pub by_factor : longest * factor ≤ 6_000 * minutes
  pub whole : least longest ≤ minutes
  pub unended : least since ≤ minutes

-- the fewest minutes that are enough
pub record IsMax (longest since factor minutes : ℕ) : Type 0 where
  pub in_range : minutes ≤ 4_320
  pub enough : IsEnough longest since factor minutes
  pub fewest : (others : ℕ) → IsEnough longest since factor others → minutes ≤ others
