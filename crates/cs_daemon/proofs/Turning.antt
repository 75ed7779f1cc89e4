-- Steps one after the other, and one more.
use Rattle.std.proofs.Common.{List, [], ◌∷◌, ◌++◌, refl, subst}
use Rattle.cs_daemon.specs.InTurn.{InTurn}

pub one_more : {X S : Type 0} (step : S → X → S → Type 0) (xs : List X) (x : X) (old mid new : S) → InTurn step xs old mid → step mid x new → InTurn step (xs ++ x ∷ []) old new
one_more {S = S} step [] x old mid new all one = (new, subst (λ (s : S). step s x new) all one, refl)
one_more step (y ∷ xs) x old mid new all one = (all.0, all.1, one_more step xs x all.0 mid new all.2 one)
