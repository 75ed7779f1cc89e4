use Rattle.std.proofs.Common.{◌≡◌, List, fold, drop}
use Rattle.cs_history.specs.Lists.{placed}
use Rattle.cs_history.specs.declared.run.Run.{Run}
use Rattle.cs_core.specs.Choices.{is_before, by_name}
use Rattle.cs_core.proofs.choices.by_name.Given as goal

abbrev pub invariant-loop-run : goal.invariant-loop-run
invariant-loop-run l = fold (λ (list : List Run) (r : Run). placed is_before r list) l.sorted.items (drop l.run-index l.runs) ≡ by_name l.runs
