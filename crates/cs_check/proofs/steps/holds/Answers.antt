use Rattle.std.proofs.Common.{ℕ, ◌-◌, List, sym, subst}
use Rattle.cs_theorem.specs.Accepted.{nth}
use Rattle.cs_classes.specs.Said.{said}
use Rattle.cs_classes.specs.Claim.{class_at}
use Rattle.cs_classes.specs.GroupDays.{AreGroupDays}
use Rattle.cs_classes.specs.declared.group_day.GroupDay.{GroupDay}
use Rattle.cs_plan.specs.Plan.{as_plan}
use Rattle.cs_check.proofs.steps.holds.Goals as goal

pub returns : goal.returns
returns c =
    let p = as_plan c.args.case.now.plan.now in
    let k = said c.args.case.now.claim.now in
    let of = c.args.used.now.of.now in
    let eve = subst (λ (days : List GroupDay). AreGroupDays p (class_at k.classes (nth of (c.days-days.result - 2))) days) (sym c.as_slice.ensures.value) c.day_on-eve.ensures.groups in
    let last = subst (λ (days : List GroupDay). AreGroupDays p (class_at k.classes (nth of (c.days-days.result - 1))) days) (sym c.as_slice-2.ensures.value) c.day_on-last.ensures.groups in
    let eve = subst (λ (n : ℕ). AreGroupDays p (class_at k.classes (nth of (n - 2))) c.as_slice.result.now) c.days-days.ensures.value eve in
    let last = subst (λ (n : ℕ). AreGroupDays p (class_at k.classes (nth of (n - 1))) c.as_slice-2.result.now) c.days-days.ensures.value last in
    λ steady. (c.is_steady_over.ensures p (class_at k.classes (nth of (c.args.case.now.days - 2))) (class_at k.classes (nth of (c.args.case.now.days - 1))) eve last).0 steady
