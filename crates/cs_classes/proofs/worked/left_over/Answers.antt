use Rattle.std.proofs.Common.{ℕ, ◌+◌, ◌-◌, ◌≤◌, Bool, true, false, List, [], ◌∷◌, fold, nat_le, arith, if◌then◌else◌}
use Rattle.cs_wait.specs.declared.backlog.Piece.{Piece}
use Rattle.cs_wait.specs.declared.backlog.TheConstants.{MAX_BACKLOG}
use Rattle.cs_wait.specs.Bounds.{IsBacklogFrom, decided}
use Rattle.cs_classes.proofs.worked.left_over.Goals as goal

decided_small : (m b : ℕ) (p : Piece) → b ≤ MAX_BACKLOG → p.value ≤ MAX_BACKLOG → decided m b p ≤ MAX_BACKLOG
decided_small m b p x y = step (nat_le p.minute m)
  where
    step : (t : Bool) → (if t then p.value - (m - p.minute) else b) ≤ MAX_BACKLOG
    step true = omega (arith, y)
    step false = x

at_small : (m b least : ℕ) (ps : List Piece) → b ≤ MAX_BACKLOG → IsBacklogFrom least ps → fold (decided m) b ps ≤ MAX_BACKLOG
at_small m b least [] x k = x
at_small m b least (p ∷ ps) x k = at_small m (decided m b p) (p.minute + 1) ps (decided_small m b p x k.3) k.4

pub returns-clause-within : goal.returns-clause-within
returns-clause-within c = rw c.at.ensures (at_small 0 0 0 c.backlog_of-backlog.result.now (omega arith) (rw c.pieces-pieces.ensures.value at c.pieces-pieces.ensures.backlog))
