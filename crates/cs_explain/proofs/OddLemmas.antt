-- The name that a word means.
use Rattle.std.proofs.Common.{◌≡◌, ◌∙◌, ℕ, List, [], ◌∷◌, Bool, true, false, if◌then◌else◌, Bor, Option, Some, None, ap, map, option_map, refl}
use Rattle.std.specs.List.{find}
use Rattle.cs_explain.specs.Odd.{is_alike}
use Rattle.cs_explain.specs.declared.meaning.Meaning.{Meaning}

-- the name of the first meaning that fits the word is the first name that does
pub name_of_found : (word : List ℕ) (meanings : List Meaning) → option_map (λ (m : Meaning). m.name.now) (find (λ (m : Meaning). is_alike word m.name.now) meanings) ≡ find (is_alike word) (map (λ (m : Meaning). m.name.now) meanings)
name_of_found word [] = refl
name_of_found word (m ∷ meanings) = by_first (is_alike word m.name.now) (name_of_found word meanings)
  where
    Same : Option Meaning → Option (List ℕ) → Type 0
    Same found name = option_map (λ (m : Meaning). m.name.now) found ≡ name

    by_first : (b : Bool) → Same (find (λ (m : Meaning). is_alike word m.name.now) meanings) (find (is_alike word) (map (λ (m : Meaning). m.name.now) meanings))
        → Same (if b then Some m else find (λ (m : Meaning). is_alike word m.name.now) meanings) (if b then Some m.name.now else find (is_alike word) (map (λ (m : Meaning). m.name.now) meanings))
    by_first true rest = refl
    by_first false rest = rest

-- the name of a meaning that was found, or of none
pub name_of_meaning : (word : List ℕ) (meanings : List Meaning) (names : List (List ℕ)) (found : Option (Bor Meaning)) → option_map (λ (m : Bor Meaning). m.now) found ≡ find (λ (m : Meaning). is_alike word m.name.now) meanings
    → map (λ (m : Meaning). m.name.now) meanings ≡ names → option_map (λ (m : Bor Meaning). m.now.name.now) found ≡ find (is_alike word) names
name_of_meaning word meanings names found is are =
    twice found ∙ (ap (option_map (λ (m : Meaning). m.name.now)) is ∙ (name_of_found word meanings ∙ ap (find (is_alike word)) are))
  where
    twice : (o : Option (Bor Meaning)) → option_map (λ (m : Bor Meaning). m.now.name.now) o ≡ option_map (λ (m : Meaning). m.name.now) (option_map (λ (m : Bor Meaning). m.now) o)
    twice None = refl
    twice (Some m) = refl
