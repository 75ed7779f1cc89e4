use Rattle.std.proofs.Common.{◌≡◌, ◌++◌, drop, map}
use Rattle.cs_history.specs.declared.event.Event.TheVariants.{Got}
use Rattle.cs_history.specs.declared.run.Run.{Run}
use Rattle.cs_core.proofs.choices.add_gots.Given as goal

abbrev pub invariant-loop-run : goal.invariant-loop-run
invariant-loop-run l = l.events ++ map (λ (w : Run). Got w.job w.at) (drop l.run-index l.runs) ≡ l.initial.events ++ map (λ (w : Run). Got w.job w.at) l.runs
