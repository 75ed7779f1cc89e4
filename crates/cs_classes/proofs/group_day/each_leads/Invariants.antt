use Rattle.std.proofs.Common.{ℕ, ◌<◌, length, slice_index_or}
use Rattle.cs_classes.specs.GroupDays.{Leads, no_day}
use Rattle.cs_classes.proofs.group_day.each_leads.Given as goal

abbrev pub invariant-loop-eve : goal.invariant-loop-eve
invariant-loop-eve l = (g : ℕ) → g < length l.yielded → Leads (slice_index_or l.eve g no_day) (slice_index_or l.day g no_day)
