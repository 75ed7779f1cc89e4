use Rattle.std.proofs.Common.{◌∙◌, ap}
use Rattle.cs_schedule.specs.Minutes.{minutes_where}
use Rattle.cs_zone.specs.declared.shape.Shape.{Shape}
use Rattle.cs_zone.specs.Shape.{is_due_in}
use Rattle.cs_zone.proofs.Shapes.{in_shape}
use Rattle.cs_zone.proofs.zone.Zone.minutes_of.Goals as goal

pub returns-in_default : goal.returns-in_default
returns-in_default c =
    c.minutes_in.ensures
    ∙ (ap (λ (x : Shape). minutes_where (is_due_in c.args.self c.args.schedule.now x)) c.shape_of.ensures
    ∙ in_shape c.args.self c.args.schedule.now c.args.kind c.saving.ensures.zone c.month-month.ensures.kind
    (λ e. c.in_default.not-Jump (c.shape_of.ensures ∙ e)))
