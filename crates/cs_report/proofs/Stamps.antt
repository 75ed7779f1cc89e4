-- No stamps, one by one.
use Rattle.std.proofs.Common.{◌≡◌, ℕ, ◌+◌, [], ◌∷◌, ◌++◌, Option, None, replicate}
use Rattle.std.proofs.lemmas.List.{replicate-append-replicate}

pub one_none_more : (n : ℕ) → replicate {A = Option ℕ} n None ++ None ∷ [] ≡ replicate (n + 1) None
one_none_more n = replicate-append-replicate n 1 None
