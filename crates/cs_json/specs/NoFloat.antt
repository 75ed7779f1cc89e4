-- No number that is written is a float.
use Rattle.std.specs.Prelude.{◌≡◌, List, [], ◌∷◌, map, Bool, true, false, ◌||◌, refl}
use Rattle.serde_json.specs.Data.{Data, array, item, no_items}
use Rattle.serde_json.specs.View.{items_of}
use Rattle.serde_json.specs.Written.{has_float, items_have_float}

neither : (a b : Bool) → a ≡ false → b ≡ false → a || b ≡ false
neither true b p q = p
neither false b p q = q

pub list_no_float : {A : Type 0} (f : A → Data) → ((x : A) → has_float (f x) ≡ false)
    → (xs : List A) → has_float (array (items_of (map f xs))) ≡ false
list_no_float f h [] = refl
list_no_float f h (x ∷ xs) =
    neither (has_float (f x)) (items_have_float (items_of (map f xs))) (h x) (list_no_float f h xs)

pub pair_no_float : (a b : Data) → has_float a ≡ false → has_float b ≡ false
    → has_float (array (item a (item b no_items))) ≡ false
pair_no_float a b p q =
    neither (has_float a) (has_float b || false) p (neither (has_float b) false q refl)

pub triple_no_float : (a b c : Data) → has_float a ≡ false → has_float b ≡ false
    → has_float c ≡ false → has_float (array (item a (item b (item c no_items)))) ≡ false
triple_no_float a b c p q r =
    neither (has_float a) (has_float b || (has_float c || false)) p (pair_no_float b c q r)
