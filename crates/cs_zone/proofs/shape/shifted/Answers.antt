use Rattle.std.proofs.Common.{◌≡◌, ◌∙◌, Bool, cond, sym, ap}
use Rattle.cs_zone.proofs.Turning.{in_turn}
use Rattle.cs_zone.proofs.shape.shifted.Goals as goal
use Rattle.cs_zone.proofs.shape.shifted.Goals.{then-is_ahead, else-is_ahead, then-below, else-below, then-above, else-above}

pub returns-clause-value : goal.returns-clause-value
returns-clause-value c =
    let z = c.args.zone in
    let below : c.if-is_ahead.below.0 ≡ cond z.ahead c.args.other c.args.same = elim c.if-is_ahead.branch [
      | then-is_ahead w ↦ rw (sym c.is_ahead.ensures ∙ w.if-is_ahead.true) (ap (λ (p : Bool × Bool). p.0) w.below-is)
      | else-is_ahead w ↦ rw (sym c.is_ahead.ensures ∙ w.if-is_ahead.false) (ap (λ (p : Bool × Bool). p.0) w.below-is)
    ] in
    let above : c.if-is_ahead.below.1 ≡ cond z.ahead c.args.same c.args.other = elim c.if-is_ahead.branch [
      | then-is_ahead w ↦ rw (sym c.is_ahead.ensures ∙ w.if-is_ahead.true) (ap (λ (p : Bool × Bool). p.1) w.below-is)
      | else-is_ahead w ↦ rw (sym c.is_ahead.ensures ∙ w.if-is_ahead.false) (ap (λ (p : Bool × Bool). p.1) w.below-is)
    ] in
    let from : c.if-below.from ≡ cond c.if-is_ahead.below.0 0 c.turn-turn.result = elim c.if-below.branch [
      | then-below w ↦ rw w.if-below.true w.from-is
      | else-below w ↦ rw w.if-below.false w.from-is
    ] in
    let to : c.if-above.to ≡ cond c.if-is_ahead.below.1 1440 c.turn-turn.result = elim c.if-above.branch [
      | then-above w ↦ rw w.if-above.true w.to-is
      | else-above w ↦ rw w.if-above.false w.to-is
    ] in
    c.times_shown.ensures ∙ in_turn z c.args.schedule.now c.args.same c.args.other c.if-is_ahead.below.0 c.if-is_ahead.below.1 c.turn-turn.result c.if-below.from c.if-above.to c.turn-turn.ensures.zone c.turn-turn.ensures.value below above from to
