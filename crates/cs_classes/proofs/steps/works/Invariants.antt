use Rattle.std.proofs.Common.{◌≡◌, ℕ, ◌<◌, None, length, slice_index_or}
use Rattle.cs_plan.specs.Plan.{as_plan}
use Rattle.cs_classes.specs.Work.{IsWork}
use Rattle.cs_classes.proofs.steps.works.Given as goal

abbrev pub invariant-loop-group : goal.invariant-loop-group
invariant-loop-group l = (length l.works.items ≡ l.group) × ((g : ℕ) → g < l.group → IsWork (as_plan l.plan) l.eve l.day g (slice_index_or l.works.items g None))
