use Rattle.std.proofs.Common.{◌≡◌, true, drop}
use Rattle.std.specs.List.{AllByRecursion}
use Rattle.cs_history.specs.Plan.{takes}
use Rattle.cs_overlap.specs.Roles.{role_at}
use Rattle.cs_overlap.specs.Sums.{is_of}
use Rattle.cs_overlap.proofs.found.any_plain_of.Given as goal

abbrev pub invariant-loop-window : goal.invariant-loop-window
invariant-loop-window l = AllByRecursion (λ w. is_of l.roles l.group w ≡ true → takes (role_at l.roles w.job).mode ≡ true) (drop l.window-index l.windows) → AllByRecursion (λ w. is_of l.roles l.group w ≡ true → takes (role_at l.roles w.job).mode ≡ true) l.windows
