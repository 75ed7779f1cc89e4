use Rattle.std.proofs.Common.{◌≡◌, true, false, ◌∙◌, sym, ap, arith}
use Rattle.cs_zone.specs.Shape.{is_due_in}
use Rattle.cs_zone.specs.declared.shape.Shape.{Shape}
use Rattle.cs_classes.proofs.Alike.{shape_minutes, still_minutes}
use Rattle.cs_classes.proofs.likeness.shape_by.Goals as goal

pub returns-then-saving-gt0-clause-minutes : goal.returns-then-saving-gt0-clause-minutes
returns-then-saving-gt0-clause-minutes c calm m lt =
    ap (λ (x : Shape). is_due_in c.args.zone c.args.schedule.now x m) c.shape_of.ensures
    ∙ shape_minutes c.args.zone c.args.schedule.now c.args.kind c.saving.ensures.zone c.month-month.ensures.kind (λ h. calm (c.shape_of.ensures ∙ h)) m lt

pub returns-then-is_day_due-clause-minutes : goal.returns-then-is_day_due-clause-minutes
returns-then-is_day_due-clause-minutes c calm m lt =
    let none : c.args.zone.saving ≡ 0 = omega arith in
    still_minutes c.args.zone c.args.schedule.now c.args.kind true c.month-month.ensures.kind none (sym c.is_day_due.ensures ∙ c.if-is_day_due.true) m lt

pub returns-else-is_day_due-clause-minutes : goal.returns-else-is_day_due-clause-minutes
returns-else-is_day_due-clause-minutes c calm m lt =
    let none : c.args.zone.saving ≡ 0 = omega arith in
    still_minutes c.args.zone c.args.schedule.now c.args.kind false c.month-month.ensures.kind none (sym c.is_day_due.ensures ∙ c.if-is_day_due.false) m lt
