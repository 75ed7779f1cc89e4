-- A list in two parts, with an item between them.
use Rattle.std.proofs.Common.{◌≡◌, ℕ, zero, suc, ◌<◌, List, [], ◌∷◌, ◌++◌, length, get_or, refl, sym, ap, arith}

pub parts_at : {X : Type 0} (xs : List X) (i : ℕ) (x : X) → i < length xs → x ≡ get_or xs i x → (before later : List X) × (xs ≡ before ++ (x ∷ later)) × (length before ≡ i)
parts_at [] i x below is = absurd (omega (arith, below))
parts_at {X} (y ∷ ys) zero x below is = ([], ys, ap (λ (z : X). z ∷ ys) (sym is), refl)
parts_at {X} (y ∷ ys) (suc i) x below is =
    let p = parts_at ys i x (omega (arith, below)) is in
    (y ∷ p.0, p.1, ap (λ (zs : List X). y ∷ zs) p.2, omega (arith, p.3))
