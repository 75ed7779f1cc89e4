-- A list of texts that grows.
use Rattle.std.proofs.Common.{◌≡◌, ◌<◌, ◌∙◌, ◌++◌, ◌+◌, ◌∷◌, [], ℕ, List, ap, get_or, length, sym, take}
use Rattle.std.proofs.lemmas.List.{append-nil, append_assoc, take_more}
use Rattle.std.specs.List.{AllZip, concat}

zipped : {A B : Type 0} (R : A → B → Type 0) (xs : List A) (ys : List B) (x : A) (y : B)
    → AllZip R xs ys → R x y → AllZip R (xs ++ x ∷ []) (ys ++ y ∷ [])
zipped R [] [] x y all r = (r, tt)
zipped R [] (b ∷ ys) x y all r = absurd all
zipped R (a ∷ xs) [] x y all r = absurd all
zipped R (a ∷ xs) (b ∷ ys) x y all r = (all.0, zipped R xs ys x y all.1 r)

pub joined : (blocks : List (List ℕ)) (block : List ℕ) → concat (blocks ++ block ∷ []) ≡ concat blocks ++ block
joined [] block = append-nil block
joined (first ∷ blocks) block =
    ap (λ (t : List ℕ). first ++ t) (joined blocks block) ∙ sym (append_assoc first (concat blocks) block)

pub one_more : {A B : Type 0} (R : A → B → Type 0) (xs : List A) (i : ℕ) (x : A) (ys : List B) (y : B) → i < length xs → AllZip R (take i xs) ys → R (get_or xs i x) y → AllZip R (take (i + 1) xs) (ys ++ y ∷ [])
one_more R xs i x ys y lt all r = rw (take_more xs i x lt) (zipped R (take i xs) ys (get_or xs i x) y all r)
