-- The names of what `lint` calls odd, and which of them a word is.
use Rattle.std.specs.Prelude.{ℕ, Bool, List, [], ◌∷◌, Option, codes}
use Rattle.std.specs.List.{find}
use Rattle.std.specs.Str.{str_eq_ignore_ascii_case}

-- in the order of the list
unfoldable pub odd_names : List (List ℕ)
odd_names =
    codes "EachMinute" ∷ codes "UnevenStep" ∷ codes "BothDays" ∷ codes "SixthField" ∷
    codes "SummerTime" ∷ codes "PercentSign" ∷ codes "LongCommand" ∷ codes "Background" ∷
    codes "CommandComment" ∷ codes "Unexpanded" ∷ codes "TimeZone" ∷ codes "ValueComment" ∷
    codes "Backslash" ∷ codes "CarriageReturn" ∷ codes "SameLine" ∷ codes "NoNewline" ∷
    codes "UnusedGroup" ∷ codes "OtherLock" ∷ codes "MixedLocks" ∷ codes "NoOwnLock" ∷
    codes "RebootLock" ∷ codes "ShortMax" ∷ codes "NoWhen" ∷ []

-- the same name, in any letter case
abbrev pub is_alike : List ℕ → List ℕ → Bool
is_alike word name = str_eq_ignore_ascii_case name word

abbrev pub odd_named : List ℕ → Option (List ℕ)
odd_named word = find (is_alike word) odd_names
