use Rattle.std.proofs.Common.{◌∙◌}
use Rattle.cs_claims.specs.Certificate.{is_due_in}
use Rattle.cs_classes.proofs.Alike.{by_minutes, by_shape}
use Rattle.cs_classes.proofs.likeness.is_job_alike.Goals as goal

pub returns-in-Jump : goal.returns-in-Jump
returns-in-Jump c like =
    c.has_minutes.ensures ∙ by_minutes c.args.zone c.args.line.now.when c.args.kind (is_due_in c.args.class.now c.args.job) c.minutes_on.result c.minutes_on.ensures

pub returns-in_default : goal.returns-in_default
returns-in_default c like =
    c.is_of.ensures
    ∙ by_shape c.args.zone c.args.line.now.when c.args.kind (is_due_in c.args.class.now c.args.job) c.args.likeness c.shape_on.result like
    (c.shape_on.ensures.compared c.in_default.not-Jump) (c.shape_on.ensures.minutes c.in_default.not-Jump)
