use Rattle.std.proofs.Common.{List, length, sym, ap, ◌∙◌, subst, ◌<◌, ◌+◌, ℕ, slice_index_or}
use Rattle.std.proofs.lemmas.List.{length_push}
use Rattle.cs_classes.proofs.GroupDays.{one_more}
use Rattle.cs_classes.specs.GroupDays.{IsGroupDay, no_day}
use Rattle.cs_classes.specs.declared.group_day.GroupDay.{GroupDay}
use Rattle.cs_plan.specs.Plan.{as_plan}
use Rattle.cs_classes.proofs.group_day.group_days.Goals as goal

pub loop-group-preserved : goal.loop-group-preserved
loop-group-preserved c =
    let p = as_plan c.args.plan.now in
    let days = c.loop-group.days.items in
    let n = c.loop-group.group in
    let pushed = c.in_ok-push.ensures.items in (
      ap (λ (xs : List GroupDay). length xs) pushed ∙ length_push days c.group_day.result ∙ ap (λ (k : ℕ). k + 1) c.loop-group.invariant.0,
      subst (λ (xs : List GroupDay). (g : ℕ) → g < n + 1 → IsGroupDay p c.args.class.now g (slice_index_or xs g no_day)) (sym pushed) (one_more p c.args.class.now days n c.group_day.result c.loop-group.invariant.0 c.loop-group.invariant.1 c.group_day.ensures),
    )
