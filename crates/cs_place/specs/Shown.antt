-- How bytes are shown, so that a text stays one line and a terminal is unharmed.
use Rattle.std.specs.Prelude.{ℕ, ◌-◌, ◌/◌, ◌%◌, Bool, ◌&&◌, ◌||◌, ◌==◌, not, nat_le, nat_lt, if◌then◌else◌, List, [], ◌∷◌, ◌++◌, get_or, ◌+◌}

-- a byte that is shown as it is: no control byte and no `\`
abbrev pub is_plain : ℕ → Bool
is_plain b = nat_le 32 b && not (b == 127) && not (b == 92)

abbrev pub hex_digit : ℕ → ℕ
hex_digit n = if nat_lt n 10 then 48 + n else 87 + n

-- `\xNN`
abbrev pub hex : ℕ → List ℕ
hex b = 92 ∷ 120 ∷ hex_digit (b / 16) ∷ hex_digit (b % 16) ∷ []

abbrev pub shown : ℕ → List ℕ
shown b = if is_plain b then b ∷ [] else hex b

-- `b` is one of `low` to `high`
abbrev is_in : ℕ → ℕ → ℕ → Bool
is_in low high b = nat_le low b && nat_le b high

-- in UTF-8: U+0080 to U+009F, which control a terminal; U+061C, which turns the direction of a text
abbrev pub is_harmful_pair : ℕ → ℕ → Bool
is_harmful_pair a b = a == 194 && is_in 128 159 b || a == 216 && b == 156

-- U+200E and U+200F, U+202A to U+202E, U+2066 to U+2069, which turn it too; U+2028 and U+2029,
-- which end a line
abbrev pub is_harmful_triple : ℕ → ℕ → ℕ → Bool
is_harmful_triple a b c =
    a == 226 && (b == 128 && (is_in 142 143 c || is_in 168 174 c) || b == 129 && is_in 166 169 c)

-- how many bytes the harmful character has that begins the text; 0 if none does
abbrev pub harmful : List ℕ → ℕ
harmful text =
    let a = get_or text 0 0 in let b = get_or text 1 0 in
    if is_harmful_pair a b then 2 else if is_harmful_triple a b (get_or text 2 0) then 3 else 0

-- a text whose first `left` bytes are of a harmful character: each of its bytes is `\xNN`
unfoldable pub shown_from : ℕ → List ℕ → List ℕ
shown_from left [] = []
shown_from left (b ∷ rest) =
    let n = if left == 0 then harmful (b ∷ rest) else left in
    (if n == 0 then shown b else hex b) ++ shown_from (n - 1) rest

abbrev pub shown_text : List ℕ → List ℕ
shown_text text = shown_from 0 text
