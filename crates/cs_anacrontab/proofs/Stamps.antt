-- A stamp's text is that of one day.
use Rattle.std.proofs.Common.{◌≡◌, ◌≤◌, ℕ, ◌↔◌, Option, Some, None, IfSome, List, [], ◌∷◌, ◌++◌, refl, sym, ◌∙◌, inl, inr}
use Rattle.cs_civil.specs.Calendar.{CivilDate, date_of, last_day}
use Rattle.cs_civil.specs.Text.{date_bytes, day_text, IsDateText}
use Rattle.cs_civil.proofs.Dates.{has_number, year_bound}
use Rattle.cs_civil.proofs.Texts.{one_day}
use Rattle.cs_anacrontab.specs.Stamp.{date_digits, HasDigits, IsStampText}

pub no_such_date : (text : List ℕ) (n : ℕ) → (IsDateText text → ⊥) → n ≤ last_day → text ≡ date_bytes (date_of n) → ⊥
no_such_date text n none le is =
    let h = has_number n in
    none (date_of n, record { year = year_bound n le; month = h.month; dom = h.dom }, is)

-- hyphens make no difference
hyphened : (d e : CivilDate) → date_digits d ≡ date_digits e → date_bytes d ≡ date_bytes e
hyphened d e h = cc

same_day : (n m : ℕ) → date_digits (date_of n) ≡ date_digits (date_of m) → n ≡ m
same_day n m h = one_day (day_text m) n m refl (sym (hyphened (date_of n) (date_of m) h))

without_newline : (d e : CivilDate) → date_digits d ++ 10 ∷ [] ≡ date_digits e ++ 10 ∷ [] → date_digits d ≡ date_digits e
without_newline d e h = cc

one_longer : (d e : CivilDate) → date_digits d ≡ date_digits e ++ 10 ∷ [] → ⊥
one_longer d e h = cc

one_stamp : (text : List ℕ) (n m : ℕ) → IsStampText text n → IsStampText text m → n ≡ m
one_stamp text n m (inl a) (inl b) = same_day n m (sym a ∙ b)
one_stamp text n m (inr a) (inr b) = same_day n m (without_newline (date_of n) (date_of m) (sym a ∙ b))
one_stamp text n m (inl a) (inr b) = absurd (one_longer (date_of n) (date_of m) (sym a ∙ b))
one_stamp text n m (inr a) (inl b) = absurd (one_longer (date_of m) (date_of n) (sym b ∙ a))

pub only_one : (text part : List ℕ) (r : Option ℕ) → IfSome r (λ n. (n ≤ last_day) × (part ≡ date_digits (date_of n))) → ((d : CivilDate) → (part ≡ date_digits d) ↔ HasDigits text d) → IfSome r (λ day. (n : ℕ) → IsStampText text n → n ≡ day)
only_one text part None is same = tt
only_one text part (Some m) is same = λ n h. one_stamp text n m h ((same (date_of m)).0 is.1)
