use Rattle.std.proofs.Common.{◌≡◌, ◌≤◌, ◌<◌, ⊎_elim, true, false, nat_le, arith}
use Rattle.std.proofs.lemmas.Bool.Decides.{leb_tells}
use Rattle.cs_overlap.proofs.table.raise.Goals as goal

pub returns-clause-held : goal.returns-clause-held
returns-clause-held c = λ m from below. ⊎_elim
    (λ (t : (nat_le c.first_unknown-start.result m ≡ true) × (c.first_unknown-start.result ≤ m)). c.loop-minute.invariant.held m t.1 (omega (arith, below)))
    (λ (t : (nat_le c.first_unknown-start.result m ≡ false) × (m < c.first_unknown-start.result)).
    let known = c.first_unknown-start.ensures.known m from t.1 in
    omega (arith, c.loop-minute.invariant.before m t.1, c.requires.known m known.0 known.1))
    (leb_tells c.first_unknown-start.result m)

pub returns-clause-other : goal.returns-clause-other
returns-clause-other c = λ m no. ⊎_elim
    (λ (t : (nat_le c.args.end m ≡ true) × (c.args.end ≤ m)). c.loop-minute.invariant.past m t.1)
    (λ (t : (nat_le c.args.end m ≡ false) × (m < c.args.end)). ⊎_elim
    (λ (u : (nat_le c.args.first m ≡ true) × (c.args.first ≤ m)). absurd (no u.1 t.1))
    (λ (u : (nat_le c.args.first m ≡ false) × (m < c.args.first)). c.loop-minute.invariant.before m (omega (arith, u.1, c.first_unknown-start.ensures.from)))
    (leb_tells c.args.first m))
    (leb_tells c.args.end m)
