use Rattle.std.proofs.Common.{◌≡◌, ℕ, ◌<◌, ◌≤◌, ◌+◌, ◌*◌, drop, length, slice_index}
use Rattle.cs_history.specs.Lists.{total}
use Rattle.cs_overlap.specs.Roles.{shared_weight}
use Rattle.cs_overlap.proofs.load.shared_loads.Given as goal

abbrev pub invariant-loop-window : goal.invariant-loop-window
invariant-loop-window l = (length l.table ≡ 64) × ((g : ℕ) → g < 64 → total (shared_weight l.roles g) l.windows ≡ slice_index l.table g + total (shared_weight l.roles g) (drop l.window-index l.windows)) × ((g : ℕ) → g < 64 → slice_index l.table g ≤ 256 * l.window-index)
