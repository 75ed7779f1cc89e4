-- Shapes of a JSON value: its value, or BadShape.
use Rattle.std.specs.Prelude.{List, [], ◌∷◌, Option, Some, None, Result, Ok, Err, ⊤, Bool, true, false, ℕ, ℤ, option_and_then, bytes_eq}
use Rattle.std.specs.List.{list_any}
use Rattle.serde_json.specs.Data.{Data}
use Rattle.serde_json.specs.Find.{as_str, as_object, as_array, as_bool, as_number, as_integer, get}
use Rattle.cs_json.specs.Bytes.{list_of, has_only}
use Rattle.cs_json.specs.Gives.{or_fault, ◌>>=◌}
use Rattle.cs_json.specs.declared.fault.JsonFault.{JsonFault}
use Rattle.cs_json.specs.declared.fault.JsonFault.TheVariants.{BadShape}

abbrev pub or_bad_shape : {A : Type 0} → Option A → Result A JsonFault
or_bad_shape = or_fault BadShape

-- BadShape unless the test holds
abbrev pub check : Bool → Result ⊤ JsonFault
check true = Ok tt
check false = Err BadShape

-- ---- single values

-- a number that is held as a whole one
abbrev pub whole_number : Data → Result ℤ JsonFault
whole_number d = or_bad_shape (option_and_then as_integer (as_number d))

abbrev pub text : Data → Result (List ℕ) JsonFault
text d = or_bad_shape (as_str d)

abbrev pub flag : Data → Result Bool JsonFault
flag d = or_bad_shape (as_bool d)

-- ---- lists

abbrev pub all_as : {A B : Type 0} → (A → Result B JsonFault) → List A → Result (List B) JsonFault
all_as f [] = Ok []
all_as f (x ∷ xs) = f x >>= (λ y. all_as f xs >>= (λ ys. Ok (y ∷ ys)))

abbrev pub list_as : {A : Type 0} → (Data → Result A JsonFault) → Data → Result (List A) JsonFault
list_as f d = or_bad_shape (as_array d) >>= (λ ds. all_as f (list_of ds))

abbrev pub pair_of : {A B : Type 0} → (Data → Result A JsonFault) → (Data → Result B JsonFault)
    → List Data → Result (A × B) JsonFault
pair_of f g [] = Err BadShape
pair_of f g (a ∷ []) = Err BadShape
pair_of f g (a ∷ b ∷ []) = f a >>= (λ x. g b >>= (λ y. Ok (x, y)))
pair_of f g (a ∷ b ∷ c ∷ ds) = Err BadShape

-- a list of exactly two, each of its own shape
abbrev pub pair_as : {A B : Type 0} → (Data → Result A JsonFault) → (Data → Result B JsonFault)
    → Data → Result (A × B) JsonFault
pair_as f g d = or_bad_shape (as_array d) >>= (λ ds. pair_of f g (list_of ds))

abbrev pub triple_of : {A B C : Type 0} → (Data → Result A JsonFault) → (Data → Result B JsonFault)
    → (Data → Result C JsonFault) → List Data → Result (A × B × C) JsonFault
triple_of f g h [] = Err BadShape
triple_of f g h (a ∷ []) = Err BadShape
triple_of f g h (a ∷ b ∷ []) = Err BadShape
triple_of f g h (a ∷ b ∷ c ∷ []) = f a >>= (λ x. g b >>= (λ y. h c >>= (λ z. Ok (x, y, z))))
triple_of f g h (a ∷ b ∷ c ∷ d ∷ ds) = Err BadShape

-- a list of exactly three, each of its own shape
abbrev pub triple_as : {A B C : Type 0} → (Data → Result A JsonFault) → (Data → Result B JsonFault)
    → (Data → Result C JsonFault) → Data → Result (A × B × C) JsonFault
triple_as f g h d = or_bad_shape (as_array d) >>= (λ ds. triple_of f g h (list_of ds))

-- ---- members of an object

-- a member that has to be there
abbrev pub member_as : {A : Type 0} → (Data → Result A JsonFault) → List ℕ → Data
    → Result A JsonFault
member_as f name d = or_bad_shape (get name d) >>= f

abbrev pub if_there : {A : Type 0} → (Data → Result A JsonFault) → A → Option Data
    → Result A JsonFault
if_there f default None = Ok default
if_there f default (Some d) = f d

-- a member, or the default if it isn't there
abbrev pub member_or_default : {A : Type 0} → (Data → Result A JsonFault) → A → List ℕ → Data
    → Result A JsonFault
member_or_default f default name d = if_there f default (get name d)

abbrev pub some_of : {A : Type 0} → (Data → Result A JsonFault) → Data → Result (Option A) JsonFault
some_of f d = f d >>= (λ x. Ok (Some x))

-- a member, or None if it isn't there
abbrev pub member_or_none : {A : Type 0} → (Data → Result A JsonFault) → List ℕ → Data
    → Result (Option A) JsonFault
member_or_none f name d = if_there (some_of f) None (get name d)

-- an object whose members' names pass the test
abbrev pub object_with : (List ℕ → Bool) → Data → Result ⊤ JsonFault
object_with named d = or_bad_shape (as_object d) >>= (λ ms. check (has_only named ms))

abbrev pub is_among : List (List ℕ) → List ℕ → Bool
is_among names k = list_any (λ n. bytes_eq n k) names
