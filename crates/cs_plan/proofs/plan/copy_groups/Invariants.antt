use Rattle.std.proofs.Common.{◌≡◌, take}
use Rattle.cs_plan.proofs.plan.copy_groups.Given as goal

abbrev pub invariant-loop-group : goal.invariant-loop-group
invariant-loop-group l = l.copies ≡ take l.group-index l.groups
