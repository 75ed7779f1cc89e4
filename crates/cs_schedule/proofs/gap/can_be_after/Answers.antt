use Rattle.std.proofs.Common.{◌&&◌, ◌∙◌, List, ap}
use Rattle.std.specs.List.{list_any}
use Rattle.cs_civil.specs.Calendar.{Kind}
use Rattle.cs_schedule.specs.Times.{is_day_due}
use Rattle.cs_schedule.specs.Gap.{can_be_after, is_day_due_after}
use Rattle.cs_schedule.proofs.gap.can_be_after.Goals as goal

pub loop-kind-init : goal.loop-kind-init
unfolding can_be_after
loop-kind-init c =
    ap (λ (ks : List Kind). list_any (λ day. is_day_due c.args.first.now day && is_day_due_after c.args.second.now c.args.days day) ks)
    (c.into_iter-kind-iterator.ensures.into_iter_gives ∙ c.all_kinds-kind-items.ensures.value)
