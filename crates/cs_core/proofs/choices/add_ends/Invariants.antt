use Rattle.std.proofs.Common.{◌≡◌, ◌++◌, drop, map}
use Rattle.cs_history.specs.declared.event.Event.TheVariants.{End}
use Rattle.cs_history.specs.declared.run.Run.{Run}
use Rattle.cs_core.proofs.choices.add_ends.Given as goal

abbrev pub invariant-loop-run : goal.invariant-loop-run
invariant-loop-run l = l.events ++ map (λ (x : Run). End x) (drop l.run-index l.runs) ≡ l.initial.events ++ map (λ (x : Run). End x) l.runs
