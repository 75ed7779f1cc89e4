use Rattle.std.proofs.Common.{◌≡◌, ℕ, ◌<◌, drop, max, length, slice_index}
use Rattle.cs_history.specs.Lists.{greatest}
use Rattle.cs_overlap.specs.Roles.{alone_weight}
use Rattle.cs_overlap.proofs.load.alone_loads.Given as goal

abbrev pub invariant-loop-window : goal.invariant-loop-window
invariant-loop-window l = (length l.table ≡ 64) × ((g : ℕ) → g < 64 → greatest (alone_weight l.roles g) l.windows ≡ max (slice_index l.table g) (greatest (alone_weight l.roles g) (drop l.window-index l.windows)))
