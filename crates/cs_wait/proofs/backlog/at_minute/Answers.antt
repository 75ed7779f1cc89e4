use Rattle.std.proofs.Common.{◌≡◌, ℕ, ◌-◌, ◌≤◌, List, [], ◌∷◌, take, length, refl, sym, ap, ◌∙◌, arith}
use Rattle.cs_wait.specs.Bounds.{at}
use Rattle.cs_wait.specs.declared.backlog.Piece.{Piece}
use Rattle.cs_wait.proofs.Pieces.{last_decides}
use Rattle.cs_wait.proofs.backlog.at_minute.Goals as goal

pub returns-in-Some : goal.returns-in-Some
returns-in-Some c =
    let begun = take c.begun_by.result c.args.list.now in
    let minute = c.args.minute in
    let i = length begun - 1 in
    let last = c.in-Some.ensures.item in
    let decided = last_decides minute 0 begun i c.in-Some.piece.now (omega (arith, last.3.0)) (c.begun_by.ensures.begun i c.in-Some.piece.now (omega (arith, last.3.0))) in
    c.saturating_sub.ensures
    ∙ (ap (λ (k : ℕ). c.in-Some.piece.now.value - k) c.from.ensures
    ∙ (ap (λ (p : Piece). p.value - (minute - p.minute)) (last.3.1 c.in-Some.piece.now)
    ∙ (sym decided ∙ c.begun_by.ensures.same)))

none_begun : (minute : ℕ) (ps : List Piece) → length ps ≤ 0 → at ps minute ≡ 0
none_begun minute [] le = refl
none_begun minute (p ∷ ps) le = absurd (omega (arith, le))

pub returns-in-None : goal.returns-in-None
returns-in-None c = sym (none_begun c.args.minute (take c.begun_by.result c.args.list.now) c.in-None.ensures.item.3) ∙ c.begun_by.ensures.same
