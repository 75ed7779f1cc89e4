use Rattle.std.proofs.Common.{subst}
use Rattle.cs_classes.specs.Said.{said}
use Rattle.cs_claims.specs.declared.class.Class.{Class}
use Rattle.cs_classes.specs.GroupDays.{AreGroupDays}
use Rattle.cs_plan.specs.Plan.{as_plan}
use Rattle.cs_check.specs.ClassDays.{Settle}
use Rattle.cs_check.proofs.class_day.class_day.Goals as goal

pub returns : goal.returns
returns c =
    let d = c.args.basis.now.plan.now in
    let k = said c.args.basis.now.claim.now in
    record {
      groups = subst (λ (class : Class). AreGroupDays (as_plan d) class c.in_ok-group_days.field-0.items) c.class_of_number-class.ensures c.in_ok-group_days.ensures;
      settles = λ t. subst (Settle d k) c.class_of_number-class.ensures (c.all_settle.ensures t);
    }
