-- Words of the format that the grammar and the reading share (crontab(5)).
use Rattle.std.specs.Prelude.{ℕ, Bool, true, false, ◌&&◌, ◌||◌, ◌==◌, nat_le, if◌then◌else◌, List, [], ◌∷◌, Option, Some, None, codes, position}
use Rattle.std.specs.List.{list_any}
use Rattle.std.specs.Str.{bytes_eq, str_eq_ignore_ascii_case}
use Rattle.cs_schedule.specs.declared.part.Part.{Part}
use Rattle.cs_schedule.specs.declared.part.Part.TheVariants.{Minute, Hour, Dom, Month, Dow}
use Rattle.cs_schedule.specs.Numbers.{numbers_where, is_every, in_week, has}
use Rattle.cs_schedule.specs.Part.{first_of, last_of}
use Rattle.cs_schedule.specs.Times.{Choice, Times}

-- the names of a field's numbers, from its first number on
abbrev pub names_of : Part → List (List ℕ)
names_of Minute = []
names_of Hour = []
names_of Dom = []
names_of Month =
    codes "jan" ∷ codes "feb" ∷ codes "mar" ∷ codes "apr" ∷ codes "may" ∷ codes "jun"
    ∷ codes "jul" ∷ codes "aug" ∷ codes "sep" ∷ codes "oct" ∷ codes "nov" ∷ codes "dec" ∷ []
names_of Dow = codes "sun" ∷ codes "mon" ∷ codes "tue" ∷ codes "wed" ∷ codes "thu" ∷ codes "fri"
    ∷ codes "sat" ∷ []

-- in upper or lower case
unfoldable pub place_of : Part → List ℕ → Option ℕ
place_of part name = position (λ known. str_eq_ignore_ascii_case known name) (names_of part)

-- in the weekday field 7 counts as 0
abbrev pub counted : Part → List ℕ → List ℕ
counted Minute numbers = numbers
counted Hour numbers = numbers
counted Dom numbers = numbers
counted Month numbers = numbers
counted Dow numbers = in_week numbers

abbrev pub all_of : List (List ℕ) → List ℕ
all_of items = numbers_where (λ n. list_any (λ item. has item n) items)

abbrev pub is_comma : ℕ → Bool
is_comma b = b == 44

-- a field with one number, and the field `*`
abbrev pub only : ℕ → Choice
only n = record { star = false; numbers = numbers_where (is_every n n 1) }

abbrev pub all : Part → Choice
all part = record {
  star = true;
  numbers = counted part (numbers_where (is_every (first_of part) (last_of part) 1));
}

-- `0 0 1 1 *`, `0 0 1 * *`, `0 0 * * 0`, `0 0 * * *` and `0 * * * *`
abbrev pub yearly : Times
yearly = record { minute = only 0; hour = only 0; dom = only 1; month = only 1; dow = all Dow }

abbrev pub monthly : Times
monthly = record { minute = only 0; hour = only 0; dom = only 1; month = all Month; dow = all Dow }

abbrev pub weekly : Times
weekly = record { minute = only 0; hour = only 0; dom = all Dom; month = all Month; dow = only 0 }

abbrev pub daily : Times
daily = record { minute = only 0; hour = only 0; dom = all Dom; month = all Month; dow = all Dow }

abbrev pub hourly : Times
hourly =
    record { minute = only 0; hour = all Hour; dom = all Dom; month = all Month; dow = all Dow }

-- what the word after `@` stands for, except `@reboot`
abbrev pub times_of_word : List ℕ → Option Times
times_of_word word =
    if bytes_eq word (codes "yearly") || bytes_eq word (codes "annually") then Some yearly
    else if bytes_eq word (codes "monthly") then Some monthly
    else if bytes_eq word (codes "weekly") then Some weekly
    else if bytes_eq word (codes "daily") || bytes_eq word (codes "midnight") then Some daily
    else if bytes_eq word (codes "hourly") then Some hourly
    else None
