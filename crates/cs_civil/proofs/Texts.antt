-- A text is that of one date.
use Rattle.std.proofs.Common.{◌≡◌, ℕ, ◌+◌, ◌*◌, ◌/◌, ◌%◌, ◌≤◌, List, pos, sym, ap, ◌∙◌, arith}
use Rattle.jiff_core.specs.Calendar.{days_from_civil}
use Rattle.cs_civil.specs.Calendar.{CivilDate, date_of}
use Rattle.cs_civil.specs.Text.{date_bytes, minute_bytes, day_text, minute_text}
use Rattle.cs_civil.proofs.Dates.{has_number}

same_parts : (d e : CivilDate) → d.year ≡ e.year → d.month ≡ e.month → d.dom ≡ e.dom → d ≡ e
same_parts d e year month dom = rw (← year, ← month, ← dom)

pub same_date : (d e : CivilDate) → date_bytes d ≡ date_bytes e → d ≡ e
same_date d e h =
    let y1 : 48 + d.year / 100 / 10 ≡ 48 + e.year / 100 / 10 = cc in
    let y2 : 48 + d.year / 100 % 10 ≡ 48 + e.year / 100 % 10 = cc in
    let y3 : 48 + d.year % 100 / 10 ≡ 48 + e.year % 100 / 10 = cc in
    let y4 : 48 + d.year % 100 % 10 ≡ 48 + e.year % 100 % 10 = cc in
    let m1 : 48 + d.month / 10 ≡ 48 + e.month / 10 = cc in
    let m2 : 48 + d.month % 10 ≡ 48 + e.month % 10 = cc in
    let d1 : 48 + d.dom / 10 ≡ 48 + e.dom / 10 = cc in
    let d2 : 48 + d.dom % 10 ≡ 48 + e.dom % 10 = cc in
    let year : d.year ≡ e.year = omega arith in
    let month : d.month ≡ e.month = omega arith in
    let dom : d.dom ≡ e.dom = omega arith in
    same_parts d e year month dom

pub no_day : (text : List ℕ) (d : CivilDate) (n : ℕ) → text ≡ date_bytes d → ((k : ℕ) → 1 ≤ k → date_of k ≡ d → ⊥) → 1 ≤ n → text ≡ day_text n → ⊥
no_day text d n e none low same = none n low (sym (same_date d (date_of n) (sym e ∙ same)))

same_start : (d e : CivilDate) (m k : ℕ) → minute_bytes d m ≡ minute_bytes e k → date_bytes d ≡ date_bytes e
same_start d e m k h = cc

pub no_minute : (d : CivilDate) (m t : ℕ) → ((k : ℕ) → 1 ≤ k → date_of k ≡ d → ⊥) → 1_440 ≤ t → minute_bytes d m ≡ minute_text t → ⊥
no_minute d m t none low same =
    none (t / 1_440) (omega arith) (sym (same_date d (date_of (t / 1_440)) (same_start d (date_of (t / 1_440)) m (t % 1_440) same)))

pub the_minute : (d : CivilDate) (m n : ℕ) → date_of n ≡ d → m ≤ 1_439 → minute_bytes d m ≡ minute_text (n * 1_440 + m)
the_minute d m n is le =
    let day : (n * 1_440 + m) / 1_440 ≡ n = omega arith in
    let clock : (n * 1_440 + m) % 1_440 ≡ m = omega arith in
    rw (day, clock, is)

same_number : (n m : ℕ) → date_of n ≡ date_of m → n ≡ m
same_number n m e =
    let p : pos n ≡ pos m = sym (has_number n).number ∙ ap (λ (d : CivilDate). days_from_civil (pos d.year) d.month d.dom) e ∙ (has_number m).number in
    cc

pub one_day : (text : List ℕ) (n m : ℕ) → text ≡ day_text m → text ≡ day_text n → n ≡ m
one_day text n m e f = same_number n m (same_date (date_of n) (date_of m) (sym f ∙ e))

same_clock : (d e : CivilDate) (a b : ℕ) → minute_bytes d a ≡ minute_bytes e b → a ≡ b
same_clock d e a b h =
    let h1 : 48 + a / 60 / 10 ≡ 48 + b / 60 / 10 = cc in
    let h2 : 48 + a / 60 % 10 ≡ 48 + b / 60 % 10 = cc in
    let m1 : 48 + a % 60 / 10 ≡ 48 + b % 60 / 10 = cc in
    let m2 : 48 + a % 60 % 10 ≡ 48 + b % 60 % 10 = cc in
    omega arith

pub one_minute : (text : List ℕ) (s t : ℕ) → text ≡ minute_text t → text ≡ minute_text s → s ≡ t
one_minute text s t e f =
    let same = sym f ∙ e in
    let day = same_number (s / 1_440) (t / 1_440) (same_date (date_of (s / 1_440)) (date_of (t / 1_440)) (same_start (date_of (s / 1_440)) (date_of (t / 1_440)) (s % 1_440) (t % 1_440) same)) in
    let clock = same_clock (date_of (s / 1_440)) (date_of (t / 1_440)) (s % 1_440) (t % 1_440) same in
    omega (arith, day, clock)
