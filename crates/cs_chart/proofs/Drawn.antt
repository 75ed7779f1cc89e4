-- Pictures that follow one another.
use Rattle.std.proofs.Common.{◌≡◌, ◌+◌, ◌<◌, ℕ, List, [], ◌∷◌, ◌++◌, Option, get_or, length, map, refl, subst, take, append_assoc, append-nil}
use Rattle.std.proofs.lemmas.List.{map-append, take_more}
use Rattle.std.specs.Prelude.{None, Some}
use Rattle.cs_civil.specs.Calendar.{Kind}
use Rattle.cs_windows.specs.Windows.{Job}
use Rattle.cs_chart.specs.Bars.{Days}
use Rattle.cs_chart.specs.Chart.{IsPictureOf}

-- a text before a picture
pub behind_text : (days : Days) (jobs : List (Option (Job Kind))) (front text : List ℕ) → IsPictureOf days jobs text → IsPictureOf days jobs (front ++ text)
unfolding IsPictureOf
behind_text days [] front text p = tt
behind_text days (None ∷ jobs) front text p = behind_text days jobs front text p
behind_text days (Some job ∷ jobs) front text (bars, colour, before, behind, are, long, parts, rest) =
    (bars, colour, front ++ before, behind, are, long, rw parts (simp append_assoc refl), rest)

-- two pictures
pub both : (days : Days) (jobs others : List (Option (Job Kind))) (text more : List ℕ) → IsPictureOf days jobs text → IsPictureOf days others more
    → IsPictureOf days (jobs ++ others) (text ++ more)
unfolding IsPictureOf
both days [] others text more p q = behind_text days others text more q
both days (None ∷ jobs) others text more p q = both days jobs others text more p q
both days (Some job ∷ jobs) others text more (bars, colour, before, behind, are, long, parts, rest) q =
    (bars, colour, before, behind ++ more, are, long, rw parts (simp append_assoc refl), both days jobs others behind more rest q)

-- a text after a picture
pub before_text : (days : Days) (jobs : List (Option (Job Kind))) (text more : List ℕ) → IsPictureOf days jobs text → IsPictureOf days jobs (text ++ more)
unfolding IsPictureOf
before_text days jobs text more p =
    subst (λ (l : List (Option (Job Kind))). IsPictureOf days l (text ++ more)) (append-nil jobs) (both days jobs [] text more p tt)

-- the next row of a list
pub next_row : {X : Type 0} (f : X → Option (Job Kind)) (days : Days) (all : List X) (i : ℕ) (x : X) (text more : List ℕ) → i < length all
    → x ≡ get_or all i x → IsPictureOf days (map f (take i all)) text → IsPictureOf days (f x ∷ []) more
    → IsPictureOf days (map f (take (i + 1) all)) (text ++ more)
next_row f days all i x text more lt is p q =
    rw (take_more all i x lt, ← is, map-append) (both days (map f (take i all)) (f x ∷ []) text more p q)
