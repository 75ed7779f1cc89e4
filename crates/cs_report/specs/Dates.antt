-- The minute and the day that a text names.
use Rattle.std.specs.Prelude.{ℕ, zero, suc, ◌+◌, nat_lt, if◌then◌else◌, List, Option, Some, None}
use Rattle.std.specs.Str.{bytes_eq}
use Rattle.cs_civil.specs.Calendar.{first_minute, last_minute, last_day}
use Rattle.cs_civil.specs.Text.{minute_text, day_text}

-- the greatest number below n that is written so
unfoldable pub written_below : (ℕ → List ℕ) → List ℕ → ℕ → Option ℕ
written_below write text zero = None
written_below write text (suc n) =
    if bytes_eq (write n) text then Some n else written_below write text n

-- a number, if it is no smaller than another
abbrev pub from_on : ℕ → Option ℕ → Option ℕ
from_on low None = None
from_on low (Some n) = if nat_lt n low then None else Some n

-- the civil minute from 1970-01-02 00:00 to 9999-12-31 23:59 whose text `YYYY-MM-DD HH:MM` this is
unfoldable pub minute_of : List ℕ → Option ℕ
minute_of text = from_on first_minute (written_below minute_text text (last_minute + 1))

-- the day from 1970-01-02 to 9999-12-31 whose text `YYYY-MM-DD` this is
unfoldable pub day_of : List ℕ → Option ℕ
day_of text = from_on 1 (written_below day_text text (last_day + 1))
