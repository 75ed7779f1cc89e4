use Rattle.std.proofs.Common.{◌≡◌, false, drop}
use Rattle.std.specs.List.{AllByRecursion}
use Rattle.cs_history.specs.Plan.{is_skip}
use Rattle.cs_overlap.specs.Roles.{role_at}
use Rattle.cs_overlap.proofs.sums.any_skips.Given as goal

abbrev pub invariant-loop-window : goal.invariant-loop-window
invariant-loop-window l = AllByRecursion (λ w. is_skip (role_at l.roles w.job).mode ≡ false) (drop l.window-index l.windows) → AllByRecursion (λ w. is_skip (role_at l.roles w.job).mode ≡ false) l.windows
