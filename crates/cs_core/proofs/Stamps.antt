-- The stamps of a start, one by one.
use Rattle.std.proofs.Common.{ℕ, zero, suc, ◌<◌, ◌≡◌, List, [], ◌∷◌, ◌++◌, Option, None, take, replicate, get_or, refl, ap, arith}

pub next_stamp : (ss : List (Option ℕ)) (n j : ℕ) → j < n → take (suc j) (ss ++ replicate n None) ≡ take j (ss ++ replicate n None) ++ get_or ss j None ∷ []
next_stamp [] zero j l = absurd (omega (arith, l))
next_stamp [] (suc n) zero l = refl
next_stamp [] (suc n) (suc j) l = ap (λ (xs : List (Option ℕ)). None ∷ xs) (next_stamp [] n j (omega (arith, l)))
next_stamp (s ∷ ss) n zero l = refl
next_stamp (s ∷ ss) n (suc j) l = ap (λ (xs : List (Option ℕ)). s ∷ xs) (next_stamp ss n j (omega (arith, l)))
