use Rattle.std.proofs.Common.{◌≡◌, ℕ, ◌<◌, length, slice_index_or}
use Rattle.cs_classes.specs.GroupDays.{IsGroupDay, no_day}
use Rattle.cs_plan.specs.Plan.{as_plan}
use Rattle.cs_classes.proofs.group_day.group_days.Given as goal

abbrev pub invariant-loop-group : goal.invariant-loop-group
invariant-loop-group l = (length l.days.items ≡ l.group) × ((g : ℕ) → g < l.group → IsGroupDay (as_plan l.plan) l.class g (slice_index_or l.days.items g no_day))
