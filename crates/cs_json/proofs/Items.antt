-- The JSON value of bytes, and members and items as a proof over a `Value` meets them.
use Rattle.std.proofs.Common.{◌≡◌, ◌+◌, ◌<◌, ◌≤◌, ℕ, List, [], ◌∷◌, ◌++◌, Bool, true, false, ◌&&◌, cond, map, drop, get_or, length, String, Global, string_bytes, Some, None, Result, Ok, Err, Vec, refl, ap, sym, ◌∙◌, arith, append_assoc}
use Rattle.std.proofs.lemmas.List.{drop_more, at_drop_all}
use Rattle.std.proofs.lemmas.Str.{is_utf8-from_IsUtf8, IsUtf8-from_is_utf8}
use Rattle.std.specs.Prelude.{IfOk}
use Rattle.std.specs.Str.{is_utf8, IsUtf8}
use Rattle.std.specs.List.{list_all, list_any}
use Rattle.serde_json.specs.Data.{Data, depth}
use Rattle.serde_json.specs.Read.{read, max_depth}
use Rattle.serde_json.specs.View.{view, items_view, members_view}
use Rattle.serde_json.specs.declared.value.Value.{Value}
use Rattle.cs_json.specs.Bytes.{json_of, has_only, list_of}
use Rattle.cs_json.specs.Gives.{or_fault, ◌>>=◌, Fails}
use Rattle.cs_json.specs.Shape.{all_as, pair_of, triple_of}
use Rattle.cs_json.specs.declared.fault.Misread.{Misread}
use Rattle.cs_json.specs.declared.fault.Misread.TheVariants.{Memory, Fault}
use Rattle.cs_json.specs.declared.fault.JsonFault.{JsonFault}
use Rattle.cs_json.specs.declared.fault.JsonFault.TheVariants.{NotJson, BadShape}

pub json_read : (bytes : List ℕ) (d : Data) → IsUtf8 bytes → read bytes ≡ Some d → or_fault NotJson (json_of bytes) ≡ Ok d
unfolding json_of
json_read bytes d u e = rw (is_utf8-from_IsUtf8 bytes u, e) refl

refused_at : (bytes : List ℕ) (b : Bool) → is_utf8 bytes ≡ b → (IsUtf8 bytes → read bytes ≡ None) → or_fault NotJson (cond b (read bytes) None) ≡ Err NotJson
refused_at bytes true e h = rw (h (IsUtf8-from_is_utf8 bytes e)) refl
refused_at bytes false e h = refl

pub json_refused : (bytes : List ℕ) → (IsUtf8 bytes → read bytes ≡ None) → or_fault NotJson (json_of bytes) ≡ Err NotJson
unfolding json_of
json_refused bytes h = refused_at bytes (is_utf8 bytes) refl h

pub only_names : (listed : List ℕ → Bool) (es : List (String Global × Value)) → has_only listed (members_view es) ≡ list_all (λ k. listed (string_bytes k)) (map (λ e. e.0) es)
only_names listed [] = refl
only_names listed (e ∷ es) = ap (λ b. listed (string_bytes e.0) && b) (only_names listed es)

pub list_of-items_view : (vs : List Value) → list_of (items_view vs) ≡ map view vs
list_of-items_view [] = refl
list_of-items_view (v ∷ vs) = ap (λ x. view v ∷ x) (list_of-items_view vs)

-- ---- a loop over a list

abbrev pub with_front : {A : Type 0} → List A → Result (List A) JsonFault → Result (List A) JsonFault
with_front front r = r >>= (λ xs. Ok (front ++ xs))

append_nil : {A : Type 0} (xs : List A) → xs ++ [] ≡ xs
append_nil [] = refl
append_nil (x ∷ xs) = ap (λ ys. x ∷ ys) (append_nil xs)

bind_return : {A : Type 0} (r : Result (List A) JsonFault) → with_front [] r ≡ r
bind_return (Ok xs) = refl
bind_return (Err f) = refl

-- what a loop keeps: what was found, then what the rest gives, is what all give
pub record Reads {A : Type 0} (f : Data → Result A JsonFault) (all : List Value) (i : ℕ) (front : List A) : Type 0 where
  pub so_far : with_front front (all_as f (map view (drop i all))) ≡ all_as f (list_of (items_view all))

pub Reads-start : {A : Type 0} (f : Data → Result A JsonFault) (all : List Value) → Reads f all 0 []
Reads-start f all = record { so_far = bind_return _ ∙ ap (all_as f) (sym (list_of-items_view all)) }

with_front-more : {A : Type 0} (front : List A) (y : A) (r : Result (List A) JsonFault) → with_front front (r >>= (λ ys. Ok (y ∷ ys))) ≡ with_front (front ++ y ∷ []) r
with_front-more front y (Ok ys) = ap Ok (sym (append_assoc front (y ∷ []) ys))
with_front-more front y (Err e) = refl

pub Reads-more : {A : Type 0} (f : Data → Result A JsonFault) (all : List Value) (i : ℕ) (front : List A) (v : Value) (y : A) → i < length all → v ≡ get_or all i v → f (view v) ≡ Ok y → Reads f all i front
    → Reads f all (i + 1) (front ++ y ∷ [])
Reads-more f all i front v y within is gives r =
    let here : all_as f (map view (drop i all)) ≡ (all_as f (map view (drop (i + 1) all)) >>= (λ ys. Ok (y ∷ ys))) = rw (drop_more all i v within, ← is, gives) refl in
    record { so_far = sym (with_front-more front y _) ∙ ap (with_front front) (sym here) ∙ r.so_far }

Reads-stop : {A : Type 0} (f : Data → Result A JsonFault) (all : List Value) (i : ℕ) (front : List A) (v : Value) (e : JsonFault) → i < length all → v ≡ get_or all i v → f (view v) ≡ Err e → Reads f all i front
    → all_as f (list_of (items_view all)) ≡ Err e
Reads-stop f all i front v e within is gives r =
    let here : all_as f (map view (drop i all)) ≡ Err e = rw (drop_more all i v within, ← is, gives) refl in
    sym r.so_far ∙ ap (with_front front) here

pub Reads-fails : {A : Type 0} (f : Data → Result A JsonFault) (all : List Value) (i : ℕ) (front : List A) (v : Value) (e : Misread) → i < length all → v ≡ get_or all i v → Fails e (f (view v)) → Reads f all i front
    → Fails e (all_as f (list_of (items_view all)))
Reads-fails f all i front v Memory within is gives r = tt
Reads-fails f all i front v (Fault e) within is gives r = Reads-stop f all i front v e within is gives r

pub Reads-end : {A : Type 0} (f : Data → Result A JsonFault) (all : List Value) (i : ℕ) (front : List A) → length all ≤ i → Reads f all i front → all_as f (list_of (items_view all)) ≡ Ok front
Reads-end f all i front past r =
    let here : all_as f (map view (drop i all)) ≡ Ok [] = at_drop_all (λ vs. all_as f (map view vs)) all i past in
    sym r.so_far ∙ ap (with_front front) here ∙ ap Ok (append_nil front)

pub map_push : {A B : Type 0} (f : A → B) (xs : List A) (y : A) → map f (xs ++ y ∷ []) ≡ map f xs ++ f y ∷ []
map_push f [] y = refl
map_push f (x ∷ xs) y = ap (λ ys. f x ∷ ys) (map_push f xs y)

pub not_two : {A B : Type 0} (f : Data → Result A JsonFault) (g : Data → Result B JsonFault) (vs : List Value) → (length vs ≡ 2 → ⊥) → pair_of f g (list_of (items_view vs)) ≡ Err BadShape
not_two f g [] h = refl
not_two f g (a ∷ []) h = refl
not_two f g (a ∷ b ∷ []) h = absurd (h refl)
not_two f g (a ∷ b ∷ c ∷ vs) h = refl

pub two_items : {A B : Type 0} (f : Data → Result A JsonFault) (g : Data → Result B JsonFault) (vs : List Value) (a b : Value) → length vs ≡ 2 → a ≡ get_or vs 0 a → b ≡ get_or vs 1 b
    → pair_of f g (list_of (items_view vs)) ≡ pair_of f g (view a ∷ view b ∷ [])
two_items f g [] a b h p q = absurd (omega arith)
two_items f g (v ∷ []) a b h p q = absurd (omega arith)
two_items f g (v ∷ w ∷ []) a b h p q = rw (p, q) refl
two_items f g (v ∷ w ∷ x ∷ vs) a b h p q = absurd (omega arith)

pub any_seen : {A B : Type 0} (f : A → B) (p : B → Bool) (xs : List A) → list_any p (map f xs) ≡ list_any (λ x. p (f x)) xs
any_seen f p [] = refl
any_seen f p (x ∷ xs) = rw (any_seen f p xs) refl

json_here : (bytes : List ℕ) (d : Data) → IsUtf8 bytes → read bytes ≡ Some d → json_of bytes ≡ Some d
unfolding json_of
json_here bytes d u e = rw (is_utf8-from_IsUtf8 bytes u, e) refl

-- what is written reads back
pub json_back : {E : Type 0} (r : Result (Vec ℕ Global) E) (d : Data) → IfOk r (λ b. IsUtf8 b.items) → IfOk r (λ b. depth d ≤ max_depth → read b.items ≡ Some d) → IfOk r (λ b. depth d ≤ max_depth → json_of b.items ≡ Some d)
json_back (Ok b) d u e = λ shallow. json_here b.items d u (e shallow)
json_back (Err f) d u e = tt

pub not_three : {A B C : Type 0} (f : Data → Result A JsonFault) (g : Data → Result B JsonFault) (h : Data → Result C JsonFault) (vs : List Value) → (length vs ≡ 3 → ⊥) → triple_of f g h (list_of (items_view vs)) ≡ Err BadShape
not_three f g h [] n = refl
not_three f g h (a ∷ []) n = refl
not_three f g h (a ∷ b ∷ []) n = refl
not_three f g h (a ∷ b ∷ c ∷ []) n = absurd (n refl)
not_three f g h (a ∷ b ∷ c ∷ d ∷ vs) n = refl

pub three_items : {A B C : Type 0} (f : Data → Result A JsonFault) (g : Data → Result B JsonFault) (h : Data → Result C JsonFault) (vs : List Value) (a b c : Value) → length vs ≡ 3 → a ≡ get_or vs 0 a → b ≡ get_or vs 1 b → c ≡ get_or vs 2 c
    → triple_of f g h (list_of (items_view vs)) ≡ triple_of f g h (view a ∷ view b ∷ view c ∷ [])
three_items f g h [] a b c n p q r = absurd (omega arith)
three_items f g h (u ∷ []) a b c n p q r = absurd (omega arith)
three_items f g h (u ∷ v ∷ []) a b c n p q r = absurd (omega arith)
three_items f g h (u ∷ v ∷ w ∷ []) a b c n p q r = rw (p, q, r) refl
three_items f g h (u ∷ v ∷ w ∷ x ∷ vs) a b c n p q r = absurd (omega arith)
