-- The name of a part is text.
use Rattle.std.proofs.Common.{◌≡◌, ◌<◌, ◌==◌, ◌||◌, ℕ, zero, suc, Bool, true, false, nat_le, List, [], ◌∷◌, arith}
use Rattle.std.specs.Char.{is_ascii_alphanumeric}
use Rattle.std.specs.Int.{is_in_range}
use Rattle.std.specs.List.{list_all, slice_index}
use Rattle.std.specs.Str.{IsUtf8}
use Rattle.std.proofs.lemmas.Bool.{and_parts, eqb-true, leb-true}
use Rattle.std.proofs.lemmas.Str.{IsUtf8-from_ascii}
use Rattle.cs_place.specs.Places.{is_name_byte, is_part_name}

in_range : (low high b : ℕ) → high < 128 → is_in_range low high b ≡ true → b < 128
in_range low high b short is = let le = leb-true b high (and_parts (nat_le low b) (nat_le b high) is).1 in omega (arith, le, short)

same : (n b : ℕ) → n < 128 → (b == n) ≡ true → b < 128
same n b short is = let e = eqb-true b n is in omega (arith, e, short)

one_of_two : (x y : Bool) (b : ℕ) → (x ≡ true → b < 128) → (y ≡ true → b < 128) → (x || y) ≡ true → b < 128
one_of_two true y b so other is = so is
one_of_two false y b so other is = other is

low_byte : (b : ℕ) → is_name_byte b ≡ true → b < 128
low_byte b =
    one_of_two (is_ascii_alphanumeric b) ((b == 95) || (b == 45)) b
    (one_of_two (is_in_range 48 57 b || is_in_range 65 90 b) (is_in_range 97 122 b) b
    (one_of_two (is_in_range 48 57 b) (is_in_range 65 90 b) b (in_range 48 57 b (omega arith)) (in_range 65 90 b (omega arith)))
    (in_range 97 122 b (omega arith)))
    (one_of_two (b == 95) (b == 45) b (same 95 b (omega arith)) (same 45 b (omega arith)))

low_bytes : (name : List ℕ) → list_all is_name_byte name ≡ true → (i : ℕ) → slice_index name i < 128
low_bytes [] all i = omega arith
low_bytes (b ∷ name) all zero = low_byte b (and_parts (is_name_byte b) (list_all is_name_byte name) all).0
low_bytes (b ∷ name) all (suc i) = low_bytes name (and_parts (is_name_byte b) (list_all is_name_byte name) all).1 i

pub part_name_is_text : (name : List ℕ) → is_part_name name ≡ true → IsUtf8 name
part_name_is_text name is = IsUtf8-from_ascii name (low_bytes name (and_parts _ (list_all is_name_byte name) is).1)
