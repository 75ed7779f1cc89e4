use Rattle.std.proofs.Common.{◌≡◌, ◌++◌, ℕ, drop, map}
use Rattle.cs_history.specs.declared.event.Event.TheVariants.{Catch}
use Rattle.cs_core.proofs.choices.add_catches.Given as goal

abbrev pub invariant-loop-job : goal.invariant-loop-job
invariant-loop-job l = l.events ++ map (λ (x : ℕ). Catch x) (drop l.job-index l.jobs) ≡ l.initial.events ++ map (λ (x : ℕ). Catch x) l.jobs
