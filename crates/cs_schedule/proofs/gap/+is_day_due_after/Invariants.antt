use Rattle.std.proofs.Common.{◌≡◌, ◌-◌, drop}
use Rattle.std.specs.List.{list_any}
use Rattle.cs_schedule.specs.Gap.{is_day_due_after}
use Rattle.cs_schedule.proofs.gap.+is_day_due_after.Given as goal

abbrev pub decreases-is_day_due_after : goal.decreases-is_day_due_after
decreases-is_day_due_after l = l.days

-- none of the days so far
abbrev pub invariant-loop-kind : goal.invariant-loop-kind
invariant-loop-kind l =
    list_any (is_day_due_after l.schedule (l.days - 1)) (drop l.kind-index l.kind-items)
    ≡ list_any (is_day_due_after l.schedule (l.days - 1)) l.kind-items
