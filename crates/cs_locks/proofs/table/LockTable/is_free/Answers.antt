use Rattle.std.proofs.Common.{◌&&◌, nat_eq, slice_index, ap, refl, sym, ◌∙◌}
use Rattle.std.proofs.lemmas.Bool.{eq-eqb, ne_eqb}
use Rattle.cs_locks.specs.declared.hold.Hold.TheVariants.{Nothing, Alone, Shared}
use Rattle.cs_locks.proofs.Counts.{free_as}
use Rattle.cs_locks.proofs.table.LockTable.is_free.Goals as goal

pub returns-in-Nothing : goal.returns-in-Nothing
returns-in-Nothing c hs counted = free_as c.args.self.now c.args.self.now hs c.args.hold Nothing _ c.in-Nothing.is refl refl counted c.requires.listed

pub returns-then-self-group-eq0 : goal.returns-then-self-group-eq0
returns-then-self-group-eq0 c hs counted =
    free_as c.args.self.now (record { alone = c.self.inside.alone; shared = c.self.inside.shared }) hs c.args.hold (Alone c.from-group.result) _ (c.in-Alone.is ∙ ap Alone (sym c.from-group.ensures)) c.self.view_is
    (sym (ap (λ b. b && nat_eq (slice_index c.self.inside.shared c.from-group.result) 0) (eq-eqb (slice_index c.self.inside.alone c.from-group.result) 0 c.if-self-group-eq0.true))) counted c.requires.listed

pub returns-else-self-group-eq0 : goal.returns-else-self-group-eq0
returns-else-self-group-eq0 c hs counted =
    let held = ne_eqb (slice_index c.self.inside.alone c.from-group.result) 0 c.if-self-group-eq0.false in
    free_as c.args.self.now (record { alone = c.self.inside.alone; shared = c.self.inside.shared }) hs c.args.hold (Alone c.from-group.result) _ (c.in-Alone.is ∙ ap Alone (sym c.from-group.ensures)) c.self.view_is
    (held ∙ sym (ap (λ b. b && nat_eq (slice_index c.self.inside.shared c.from-group.result) 0) held)) counted c.requires.listed

pub returns-in-Shared : goal.returns-in-Shared
returns-in-Shared c hs counted =
    free_as c.args.self.now (record { alone = c.self.inside.alone; shared = c.self.inside.shared }) hs c.args.hold (Shared c.from.result) _ (c.in-Shared.is ∙ ap Shared (sym c.from.ensures)) c.self.view_is refl counted
    c.requires.listed
