-- Members that stand twice, level by level.
use Rattle.std.proofs.Common.{◌≡◌, ℕ, zero, suc, ◌<◌, length, get_or, map, arith, List, [], ◌∷◌, Some, None, option_and_then, option_map, bytes_eq, ◌∙◌, Bool, true, false, cond, refl, ap, sym}
use Rattle.std.specs.Borrow.{Bor}
use Rattle.std.specs.Prelude.{slice_index_or, IsUtf8}
use Rattle.std.specs.Str.{is_utf8}
use Rattle.std.proofs.lemmas.Str.{IsUtf8-from_is_utf8, is_utf8-from_IsUtf8}
use Rattle.cs_decl.specs.Doubled.{doubled, doubled_member, first_repeated}
use Rattle.cs_decl.specs.Faults.{first_twice}
use Rattle.json.specs.Json.{Json, document}
use Rattle.json.specs.Strict.{keys}
use Rattle.json.specs.Value.{members_view}
use Rattle.json.specs.declared.value.Value.{Value}

pub keys_are : {A : Type 0} → (ms : List (Bor (List ℕ) × Value A)) → keys (members_view ms) ≡ map (λ m. m.0.now) ms
keys_are [] = refl
keys_are (m ∷ ms) = ap (λ ks. m.0.now ∷ ks) (keys_are ms)

pub named_at : {X : Type 0} (f : X → List ℕ) (xs : List X) (i : ℕ) (x : X) → i < length xs → x ≡ get_or xs i x → slice_index_or (map f xs) i [] ≡ f x
named_at f [] i x within is = absurd (omega arith)
named_at f (y ∷ ys) zero x within is = ap f (sym is)
named_at f (y ∷ ys) (suc i) x within is = named_at f ys i x (omega arith) is

pub repeated_at : {A : Type 0} (ms : List (Bor (List ℕ) × Value A)) (i : ℕ) (m : Bor (List ℕ) × Value A) → i < length ms → m ≡ get_or ms i m → Some i ≡ first_twice bytes_eq (map (λ m. m.0.now) ms)
    → Some m.0.now ≡ first_repeated (keys (members_view ms))
repeated_at ms i m within is found =
    let name = named_at (λ (m : Bor (List ℕ) × Value _). m.0.now) ms i m within is in
    rw (keys_are ms) (ap Some (sym name) ∙ ap (option_map (λ (j : _). slice_index_or (map (λ m. m.0.now) ms) j [])) found)

pub none_repeated : {A : Type 0} (ms : List (Bor (List ℕ) × Value A)) → None ≡ first_twice bytes_eq (map (λ m. m.0.now) ms) → None ≡ first_repeated (keys (members_view ms))
none_repeated ms none = rw (keys_are ms) (ap (option_map (λ (j : _). slice_index_or (map (λ m. m.0.now) ms) j [])) none)

pub no_text : (text : List ℕ) → (IsUtf8 text → document text ≡ None) → None ≡ doubled_member text
unfolding doubled_member
no_text text h = by_test (is_utf8 text) refl
  where
    by_test : (b : Bool) → is_utf8 text ≡ b → None ≡ cond b (option_and_then doubled (document text)) None
    by_test true is = rw (h (IsUtf8-from_is_utf8 text is)) refl
    by_test false is = refl

pub in_text : (text : List ℕ) (j : Json) → IsUtf8 text → document text ≡ Some j → doubled_member text ≡ doubled j
unfolding doubled_member
in_text text j utf8 is = rw (is_utf8-from_IsUtf8 text utf8, is) refl
