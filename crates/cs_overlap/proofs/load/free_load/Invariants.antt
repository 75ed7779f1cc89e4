use Rattle.std.proofs.Common.{◌≡◌, ◌≤◌, ◌*◌, ◌+◌, drop}
use Rattle.cs_history.specs.Lists.{total}
use Rattle.cs_overlap.specs.Roles.{free_weight}
use Rattle.cs_overlap.proofs.load.free_load.Given as goal

abbrev pub invariant-loop-window : goal.invariant-loop-window
invariant-loop-window l = (total (free_weight l.roles) l.windows ≡ l.sum + total (free_weight l.roles) (drop l.window-index l.windows)) × (l.sum ≤ 256 * l.window-index)
