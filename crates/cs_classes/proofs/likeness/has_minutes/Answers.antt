use Rattle.std.proofs.Common.{◌∙◌, sym}
use Rattle.cs_schedule.specs.Numbers.{has}
use Rattle.cs_claims.specs.Certificate.{is_due_in}
use Rattle.cs_classes.proofs.Alike.{agree}
use Rattle.cs_classes.proofs.likeness.has_minutes.Goals as goal

pub returns : goal.returns
returns c =
    agree (is_due_in c.args.class.now c.args.job) (has c.args.minutes.now) c.is_same.result
    (λ e m lt. sym (c.due_in_order.ensures.due m lt) ∙ c.is_same.ensures.0 e m lt)
    (λ h. c.is_same.ensures.1 (λ m lt. c.due_in_order.ensures.due m lt ∙ h m lt))
