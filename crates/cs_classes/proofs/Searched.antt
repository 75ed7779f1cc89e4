use Rattle.std.proofs.Common.{ℕ, ◌+◌, ◌<◌, ◌≡◌, ◌==◌, ◌&&◌, ◌||◌, Bool, List, [], ◌∷◌, ◌++◌, filter, map, length, get_or, take, refl, sym, ap, ◌∙◌}
use Rattle.std.specs.Prelude.{nat_eq, option_map, slice_get, Some, if◌then◌else◌}
use Rattle.std.specs.List.{list_any}
use Rattle.std.proofs.lemmas.List.{take_more}
use Rattle.std.proofs.lemmas.Option.{get_or_from_slice_get, slice_get-get_or, slice_get-map, slice_get_within}
use Rattle.std.specs.Cmp.Lexicographic.{pointwise}
use Rattle.cs_theorem.specs.Faults.{same_list}
use Rattle.cs_classes.proofs.Lists.{filter_push}

pub slices_same : (xs ys : List ℕ) → pointwise nat_eq xs ys ≡ same_list xs ys
slices_same [] [] = refl
slices_same [] (y ∷ ys) = refl
slices_same (x ∷ xs) [] = refl
slices_same (x ∷ xs) (y ∷ ys) = ap (λ (b : Bool). (x == y) && b) (slices_same xs ys)

pub any_map : {A B : Type 0} (t : B → Bool) (f : A → B) (xs : List A) → list_any t (map f xs) ≡ list_any (λ x. t (f x)) xs
any_map t f [] = refl
any_map t f (x ∷ xs) = ap (λ (b : Bool). t (f x) || b) (any_map t f xs)

pub one_more : {X : Type 0} (xs : List X) (i : ℕ) (x : X) → i < length xs → x ≡ get_or xs i x → take i xs ++ x ∷ [] ≡ take (i + 1) xs
one_more {X} xs i x within is = ap (λ (y : X). take i xs ++ y ∷ []) is ∙ sym (take_more xs i x within)

pub filter_more : {A : Type 0} (t : A → Bool) (xs : List A) (i : ℕ) (x : A) (b : Bool) → slice_get xs i ≡ Some x → t x ≡ b → filter t (take (i + 1) xs) ≡ filter t (take i xs) ++ (if b then x ∷ [] else [])
filter_more {A} t xs i x b at e =
    ap (filter t) (sym (one_more xs i x (slice_get_within xs i x at) (sym (get_or_from_slice_get xs i x x at))))
    ∙ filter_push t (take i xs) x ∙ ap (λ (c : Bool). filter t (take i xs) ++ (if c then x ∷ [] else [])) e

pub placed : {A B : Type 0} (f : A → B) (xs : List A) (i : ℕ) (x : A) → i < length xs → x ≡ get_or xs i x → slice_get (map f xs) i ≡ Some (f x)
placed f xs i x lt is = slice_get-map f xs i ∙ ap (option_map f) (slice_get-get_or xs i x lt ∙ ap Some (sym is))
