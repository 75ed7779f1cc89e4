-- Steps of one kind, one after the other.
use Rattle.std.specs.Prelude.{◌≡◌, List, [], ◌∷◌}

module _ {X S : Type 0} (step : S → X → S → Type 0) where
  -- the first step begins at `old`, each other where the one before it has led, the last at `new`
  abbrev pub InTurn : List X → S → S → Type 0
  InTurn [] old new = new ≡ old
  InTurn (x ∷ xs) old new = (next : S) × step old x next × InTurn xs next new
