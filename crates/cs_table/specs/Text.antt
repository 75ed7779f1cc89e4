-- Lines, words and numbers of a text.
use Rattle.std.specs.Prelude.{◌≡◌, ◌≢◌, ℕ, Bool, true, false, not, ◌&&◌, ◌||◌, ◌==◌, nat_le, bytes_eq, if◌then◌else◌, List, [], ◌∷◌, length, ◌+◌, ◌-◌, ◌*◌}
use Rattle.std.specs.Borrow.{Bor}
use Rattle.std.specs.List.{onto_first, fold, list_all, list_any}

-- A newline ends a line. A rest without newline is a line too, unless it's empty.
unfoldable pub lines_of : List ℕ → List (List ℕ)
lines_of [] = []
lines_of (b ∷ bs) = if b == 10 then [] ∷ lines_of bs else onto_first b (lines_of bs)

-- the longest front whose bytes pass a test, and the rest
unfoldable pub front : (ℕ → Bool) → List ℕ → List ℕ
front test [] = []
front test (b ∷ bs) = if test b then b ∷ front test bs else []

unfoldable pub after : (ℕ → Bool) → List ℕ → List ℕ
after test [] = []
after test (b ∷ bs) = if test b then after test bs else b ∷ bs

abbrev pub is_blank : ℕ → Bool
is_blank b = b == 32 || b == 9

abbrev pub is_solid : ℕ → Bool
is_solid b = not (is_blank b)

abbrev pub is_digit : ℕ → Bool
is_digit b = nat_le 48 b && nat_le b 57

-- the word is one of these
abbrev pub is_one_of : List (Bor (List ℕ)) → List ℕ → Bool
is_one_of words word = list_any (λ w. bytes_eq w.now word) words

-- the number that digits stand for after those of n
unfoldable pub decimal_from : ℕ → List ℕ → ℕ
decimal_from n digits = fold (λ m d. 10 * m + (d - 48)) n digits

abbrev pub decimal : List ℕ → ℕ
decimal digits = decimal_from 0 digits

-- each byte passes the test, and there is one
abbrev pub Are : (ℕ → Bool) → List ℕ → Type 0
Are test text = (list_all test text ≡ true) × (text ≢ [])

-- the first byte, if there is one, fails the test
abbrev pub StopsAt : (ℕ → Bool) → List ℕ → Type 0
StopsAt test [] = Unit {0}
StopsAt test (b ∷ bs) = test b ≡ false

abbrev pub begins_with : ℕ → List ℕ → Bool
begins_with byte [] = false
begins_with byte (b ∷ bs) = b == byte

abbrev pub is_nothing : List ℕ → Bool
is_nothing text = length text == 0
