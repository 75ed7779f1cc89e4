-- Names are letters.
use Rattle.std.proofs.Common.{◌≡◌, ℕ, ◌+◌, ◌<◌, ◌≤◌, Bool, true, false, cond, nat_eq, nat_lt, nat_le, List, [], length, get_or, Some, refl, sym, ap, ◌∙◌, arith}
use Rattle.std.specs.List.{list_all}
use Rattle.std.specs.Char.{to_ascii_lowercase}
use Rattle.std.specs.Str.{str_eq_ignore_ascii_case, str_to_ascii_lowercase}
use Rattle.std.proofs.lemmas.Bool.{eqb-true, leb-true, ltb-false, lt-leb, ne_eqb, and_right}
use Rattle.std.proofs.lemmas.Slice.Eq.{bytes_eq-Decides}
use Rattle.std.proofs.lemmas.List.{length-map}
use Rattle.std.proofs.lemmas.List.Sums.{AllPass-from_list_all}
use Rattle.std.proofs.lemmas.List.Folds.{list_all-map}
use Rattle.std.proofs.lemmas.List.Quantifiers.{position-Some}
use Rattle.cs_schedule.specs.declared.part.Part.{Part}
use Rattle.cs_schedule.specs.declared.part.Part.TheVariants as parts
use Rattle.cs_schedule.specs.Part.{first_of, last_of}
use Rattle.cs_table.specs.Text.{is_digit}
use Rattle.cs_crontab.specs.Format.{names_of, place_of}

-- a letter, in upper or lower case, or a byte after the letters
abbrev pub is_letter : ℕ → Bool
is_letter b = nat_le 97 (to_ascii_lowercase b)

letter_above : (b : ℕ) → is_letter b ≡ true → 65 ≤ b
letter_above b e = by_test (nat_lt b 65) refl (leb-true 97 (to_ascii_lowercase b) e)
  where
    by_test : (t : Bool) → nat_lt b 65 ≡ t → 97 ≤ cond t b (cond (nat_lt b 91) (b + 32) b) → 65 ≤ b
    by_test true is above = omega (arith, above)
    by_test false is above = ltb-false b 65 is

pub letter_no_digit : (b : ℕ) → is_letter b ≡ true → is_digit b ≡ false
letter_no_digit b e = and_right (nat_le 48 b) (nat_le b 57) (lt-leb b 57 (omega (arith, letter_above b e)))

pub letter_other : (b c : ℕ) → c < 65 → is_letter b ≡ true → nat_eq b c ≡ false
letter_other b c below e = ne_eqb b c (λ same. absurd (omega (arith, letter_above b e, same, below)))

names_are_letters : (part : Part) → list_all (λ name. list_all is_letter name) (names_of part) ≡ true
names_are_letters parts.Minute = refl
names_are_letters parts.Hour = refl
names_are_letters parts.Dom = refl
names_are_letters parts.Month = refl
names_are_letters parts.Dow = refl

pub name_letters : (part : Part) (text : List ℕ) (place : ℕ) → place_of part text ≡ Some place → list_all is_letter text ≡ true
unfolding place_of
name_letters part text place found =
    let at = position-Some (λ known. str_eq_ignore_ascii_case known text) (names_of part) place [] found in
    let known : List ℕ = get_or (names_of part) place [] in
    let letters : list_all is_letter known ≡ true = AllPass-from_list_all (λ name. list_all is_letter name) (names_of part) (names_are_letters part) place [] at.0 in
    let same : str_to_ascii_lowercase known ≡ str_to_ascii_lowercase text = (bytes_eq-Decides (str_to_ascii_lowercase known) (str_to_ascii_lowercase text)).0 at.1 in
    sym (list_all-map (λ b. nat_le 97 b) to_ascii_lowercase text) ∙ ap (list_all (λ b. nat_le 97 b)) (sym same) ∙ list_all-map (λ b. nat_le 97 b) to_ascii_lowercase known ∙ letters

names_are_short : (part : Part) → list_all (λ name. nat_eq (length name) 3) (names_of part) ≡ true
names_are_short parts.Minute = refl
names_are_short parts.Hour = refl
names_are_short parts.Dom = refl
names_are_short parts.Month = refl
names_are_short parts.Dow = refl

pub name_length : (part : Part) (text : List ℕ) (place : ℕ) → place_of part text ≡ Some place → length text ≡ 3
unfolding place_of
name_length part text place found =
    let at = position-Some (λ known. str_eq_ignore_ascii_case known text) (names_of part) place [] found in
    let known : List ℕ = get_or (names_of part) place [] in
    let three : length known ≡ 3 = eqb-true (length known) 3 (AllPass-from_list_all (λ name. nat_eq (length name) 3) (names_of part) (names_are_short part) place [] at.0) in
    let same : str_to_ascii_lowercase known ≡ str_to_ascii_lowercase text = (bytes_eq-Decides (str_to_ascii_lowercase known) (str_to_ascii_lowercase text)).0 at.1 in
    sym (length-map text to_ascii_lowercase) ∙ ap (length {A = ℕ}) (sym same) ∙ length-map known to_ascii_lowercase ∙ three

-- no name of a field stands for a number above its last
pub names_end : (part : Part) (text : List ℕ) (place : ℕ) → place_of part text ≡ Some place → first_of part + place ≤ last_of part
unfolding place_of
names_end part text place found =
    let within : place < length (names_of part) = (position-Some (λ known. str_eq_ignore_ascii_case known text) (names_of part) place [] found).0 in
    below part within
  where
    below : (p : Part) → place < length (names_of p) → first_of p + place ≤ last_of p
    below parts.Minute within = omega (arith, within)
    below parts.Hour within = omega (arith, within)
    below parts.Dom within = omega (arith, within)
    below parts.Month within = omega (arith, within)
    below parts.Dow within = omega (arith, within)

pub minute_unnamed : (text : List ℕ) (place : ℕ) → place_of parts.Minute text ≡ Some place → ⊥
unfolding place_of
minute_unnamed text place e = absurd cc
