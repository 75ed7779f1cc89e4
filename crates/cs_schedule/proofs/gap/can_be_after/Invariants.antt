use Rattle.std.proofs.Common.{◌≡◌, ◌&&◌}
use Rattle.std.specs.List.{list_any}
use Rattle.cs_schedule.specs.Times.{is_day_due}
use Rattle.cs_schedule.specs.Gap.{can_be_after, is_day_due_after}
use Rattle.cs_schedule.proofs.gap.can_be_after.Given as goal

-- none of the kinds so far
abbrev pub invariant-loop-kind : goal.invariant-loop-kind
invariant-loop-kind l =
    list_any (λ day. is_day_due l.first day && is_day_due_after l.second l.days day) l.kind-iterator
    ≡ can_be_after l.first l.second l.days
