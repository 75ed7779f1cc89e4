-- Whether pieces make a backlog, as a test and as a fact.
use Rattle.std.proofs.Common.{◌≡◌, ℕ, ◌+◌, Bool, true, false, List, [], ◌∷◌, refl}
use Rattle.std.proofs.lemmas.Bool.{lt-ltb, ltb-true, le-leb, leb-true}
use Rattle.cs_wait.specs.declared.backlog.Piece.{Piece}
use Rattle.cs_wait.specs.Bounds.{IsBacklogFrom}
use Rattle.cs_claims.specs.Rules.{is_backlog_from}
use Rattle.cs_claims.proofs.Both.{and_both, both_and}

pub backlog_so : (least : ℕ) (ps : List Piece) → IsBacklogFrom least ps → is_backlog_from least ps ≡ true
backlog_so least [] h = refl
backlog_so least (p ∷ ps) h =
    both_and _ _ (both_and _ _ (both_and _ _ (both_and _ _ (le-leb _ _ h.0) (lt-ltb _ _ h.1)) (le-leb _ _ h.2)) (le-leb _ _ h.3)) (backlog_so (p.minute + 1) ps h.4)

pub so_backlog : (least : ℕ) (ps : List Piece) → is_backlog_from least ps ≡ true → IsBacklogFrom least ps
so_backlog least [] h = tt
so_backlog least (p ∷ ps) h =
    let a = and_both _ _ h in
    let b = and_both _ _ a.0 in
    let c = and_both _ _ b.0 in
    let d = and_both _ _ c.0 in
    (leb-true _ _ d.0, ltb-true _ _ d.1, leb-true _ _ c.1, leb-true _ _ b.1, so_backlog (p.minute + 1) ps a.1)

pub no_backlog : (ps : List Piece) → (IsBacklogFrom 0 ps → ⊥) → is_backlog_from 0 ps ≡ false
no_backlog ps h = by_case (is_backlog_from 0 ps) (λ e. h (so_backlog 0 ps e))
  where
    by_case : (b : Bool) → (b ≡ true → ⊥) → b ≡ false
    by_case true f = absurd (f refl)
    by_case false f = refl
