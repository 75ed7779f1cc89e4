-- Two lists, element by element.
use Rattle.std.proofs.Common.{◌≡◌, ℕ, ◌+◌, ◌<◌, List, [], ◌∷◌, ◌++◌, length, get_or, take, sym, ap, subst, ◌∙◌}
use Rattle.std.specs.List.{AllZip}
use Rattle.std.proofs.lemmas.List.{take_more}

module _ {X Y : Type 0} (R : X → Y → Type 0) where
  pub zip_more : (xs : List X) (ys : List Y) (x : X) (y : Y) → AllZip R xs ys → R x y → AllZip R (xs ++ x ∷ []) (ys ++ y ∷ [])
  zip_more [] [] x y all more = (more, tt)
  zip_more [] (b ∷ ys) x y all more = absurd all
  zip_more (a ∷ xs) [] x y all more = absurd all
  zip_more (a ∷ xs) (b ∷ ys) x y all more = (all.0, zip_more xs ys x y all.1 more)

  pub zip_next : (xs : List X) (ys pushed : List Y) (i : ℕ) (x : X) (y : Y) → i < length xs → x ≡ get_or xs i x → pushed ≡ ys ++ y ∷ [] → AllZip R (take i xs) ys → R x y → AllZip R (take (i + 1) xs) pushed
  zip_next xs ys pushed i x y low here is all more =
      subst (λ (l : List Y). AllZip R (take (i + 1) xs) l) (sym is)
      (subst (λ (l : List X). AllZip R l (ys ++ y ∷ [])) (ap (λ (z : X). take i xs ++ z ∷ []) here ∙ sym (take_more xs i x low)) (zip_more (take i xs) ys x y all more))
