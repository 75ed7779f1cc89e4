use Rattle.std.proofs.Common.{◌≡◌, filter}
use Rattle.std.specs.Prelude.{flat_map}
use Rattle.cs_history.specs.Lists.{below}
use Rattle.cs_windows.specs.Windows.{day_minutes}
use Rattle.cs_classes.specs.Planned.{due_on}
use Rattle.cs_classes.specs.StandsFor.{due_list}
use Rattle.cs_classes.proofs.worked.due_on.Given as goal

abbrev pub invariant-loop-job : goal.invariant-loop-job
invariant-loop-job l = l.due ≡ flat_map (λ j. due_list j (filter (due_on l.plan j l.kind) day_minutes)) (below l.job)
