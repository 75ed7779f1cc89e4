-- Words and lines that are put together come apart again.
use Rattle.std.proofs.Common.{◌≡◌, ℕ, ◌+◌, ◌/◌, ◌%◌, Bool, true, false, not, ◌&&◌, ◌==◌, List, [], ◌∷◌, ◌++◌, refl, arith}
use Rattle.std.specs.List.{list_all}
use Rattle.std.proofs.lemmas.Bool.{ne_eqb}
use Rattle.cs_civil.specs.Calendar.{CivilDate}
use Rattle.cs_civil.specs.Text.{two_digits, date_bytes}
use Rattle.cs_table.specs.Text.{lines_of}
use Rattle.cs_report.specs.Grammar.{is_word_byte}
use Rattle.cs_report.proofs.NamedJobs.{and_left, and_right}

pub both : (a b : Bool) → a ≡ true → b ≡ true → (a && b) ≡ true
both a b h k = rw (h, k) refl

pub not_true : (t : Bool) → not t ≡ true → t ≡ false
not_true true e = absurd cc
not_true false e = refl

-- ---- lines

abbrev pub is_inside : ℕ → Bool
is_inside b = not (b == 10)

-- the first line of a text without a newline, a newline and a text
pub line_of : (line rest : List ℕ) → list_all is_inside line ≡ true → lines_of (line ++ 10 ∷ rest) ≡ line ∷ lines_of rest
unfolding lines_of
line_of [] rest h = refl
line_of (b ∷ bs) rest h = rw (not_true (b == 10) (and_left (is_inside b) (list_all is_inside bs) h), line_of bs rest (and_right (is_inside b) (list_all is_inside bs) h)) refl

-- ---- dates

-- neither a space nor the end of a line
abbrev pub is_date_byte : ℕ → Bool
is_date_byte b = is_word_byte b && not (b == 10)

pub digit_byte : (x : ℕ) → is_date_byte (48 + x) ≡ true
digit_byte x = rw (ne_eqb (48 + x) 32 (λ e. omega (arith, e)), ne_eqb (48 + x) 10 (λ e. omega (arith, e))) refl

pub two_bytes : (n : ℕ) (rest : List ℕ) → list_all is_date_byte rest ≡ true → list_all is_date_byte (two_digits n ++ rest) ≡ true
two_bytes n rest h = both _ _ (digit_byte (n / 10)) (both _ _ (digit_byte (n % 10)) h)

pub date_solid : (d : CivilDate) → list_all is_date_byte (date_bytes d) ≡ true
date_solid d =
    two_bytes (d.year / 100) (two_digits (d.year % 100) ++ 45 ∷ two_digits d.month ++ 45 ∷ two_digits d.dom) (two_bytes (d.year % 100) (45 ∷ two_digits d.month ++ 45 ∷ two_digits d.dom) (two_bytes d.month (45 ∷ two_digits d.dom) (two_bytes d.dom [] refl)))

pub clock_solid : (m : ℕ) → list_all is_date_byte (two_digits (m / 60) ++ 58 ∷ two_digits (m % 60)) ≡ true
clock_solid m = two_bytes (m / 60) (58 ∷ two_digits (m % 60)) (two_bytes (m % 60) [] refl)
