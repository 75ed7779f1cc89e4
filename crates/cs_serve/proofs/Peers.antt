-- The notes on the jobs of a plan, one after the other.
use Rattle.std.proofs.Common.{◌≡◌, ◌∙◌, ℕ, ◌+◌, List, [], ◌∷◌, ◌++◌, add-one, ap, append-nil, subst, sym}
use Rattle.std.proofs.lemmas.Grind.{flat_map-append}
use Rattle.std.specs.List.{AllZip, flat_map}
use Rattle.cs_history.specs.Lists.{below}

pub more : (f : ℕ → List ℕ) (n : ℕ) → flat_map f (below (n + 1)) ≡ flat_map f (below n) ++ f n
more f n = ap (λ (m : ℕ). flat_map f (below m)) (add-one n) ∙ (flat_map-append f (below n) (n ∷ []) ∙ ap (λ (xs : List ℕ). flat_map f (below n) ++ xs) (append-nil (f n)))

zip_push : {A B : Type 0} (R : A → B → Type 0) (xs : List A) (ys : List B) (x : A) (y : B) → AllZip R xs ys → R x y → AllZip R (xs ++ x ∷ []) (ys ++ y ∷ [])
zip_push R [] [] x y all one = (one, tt)
zip_push R [] (b ∷ ys) x y all one = absurd all
zip_push R (a ∷ xs) [] x y all one = absurd all
zip_push R (a ∷ xs) (b ∷ ys) x y all one = (all.0, zip_push R xs ys x y all.1 one)

-- one note more
pub one_more_note : {X : Type 0} (R : ℕ → X → Type 0) (n : ℕ) (notes more : List X) (note : X) → more ≡ notes ++ note ∷ [] → AllZip R (below n) notes → R n note → AllZip R (below (n + 1)) more
one_more_note R n notes more note is all one =
    subst (λ (xs : List _). AllZip R (below (n + 1)) xs) (sym is) (subst (λ (m : ℕ). AllZip R (below m) (notes ++ note ∷ [])) (sym (add-one n)) (zip_push R (below n) notes n note all one))
