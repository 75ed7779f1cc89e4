-- The texts of dates and minutes are words.
use Rattle.std.proofs.Common.{◌≡◌, ◌≢◌, ℕ, ◌/◌, ◌%◌, true, not, ◌==◌, List, [], ◌∷◌, ◌++◌, refl}
use Rattle.std.specs.List.{list_all}
use Rattle.cs_civil.specs.Calendar.{CivilDate, date_of}
use Rattle.cs_civil.specs.Text.{two_digits, date_bytes, minute_text, day_text}
use Rattle.cs_report.specs.Grammar.{is_word_byte, IsWord, IsMoment}
use Rattle.cs_report.proofs.NamedJobs.{and_left, and_right}
use Rattle.cs_report.proofs.BackWords.{both, is_date_byte, date_solid, clock_solid}

no_space : (text : List ℕ) → list_all is_date_byte text ≡ true → list_all is_word_byte text ≡ true
no_space [] h = refl
no_space (b ∷ bs) h =
    let p = and_left (is_date_byte b) (list_all is_date_byte bs) h in
    both _ _ (and_left (is_word_byte b) (not (b == 10)) p) (no_space bs (and_right (is_date_byte b) (list_all is_date_byte bs) h))

pub word_of : (text : List ℕ) → text ≢ [] → list_all is_date_byte text ≡ true → IsWord text
word_of text some h = (no_space text h, some)

pub moment_is : (t : ℕ) → IsMoment (minute_text t)
moment_is t =
    let d : CivilDate = date_of (t / 1_440) in
    let m : ℕ = t % 1_440 in
    let clock : List ℕ = two_digits (m / 60) ++ 58 ∷ two_digits (m % 60) in
    (date_bytes d, clock, refl, word_of (date_bytes d) (λ e. cc) (date_solid d), word_of clock (λ e. cc) (clock_solid m))

pub day_is : (day : ℕ) → IsWord (day_text day)
day_is day = word_of (date_bytes (date_of day)) (λ e. cc) (date_solid (date_of day))
