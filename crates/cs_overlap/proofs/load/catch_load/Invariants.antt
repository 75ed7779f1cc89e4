use Rattle.std.proofs.Common.{◌≡◌, max, drop}
use Rattle.cs_history.specs.Lists.{greatest}
use Rattle.cs_overlap.specs.Roles.{catch_weight}
use Rattle.cs_overlap.proofs.load.catch_load.Given as goal

abbrev pub invariant-loop-window : goal.invariant-loop-window
invariant-loop-window l = greatest (catch_weight l.roles) l.windows ≡ max l.most (greatest (catch_weight l.roles) (drop l.window-index l.windows))
