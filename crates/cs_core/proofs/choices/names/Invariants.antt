use Rattle.std.proofs.Common.{◌≡◌, ◌++◌, map}
use Rattle.cs_history.specs.declared.run.Going.{Going}
use Rattle.cs_core.proofs.choices.names.Given as goal

abbrev pub invariant-loop-going : goal.invariant-loop-going
invariant-loop-going l = l.listed.items ++ map (λ (r : Going). r.run) l.going-iterator ≡ map (λ (r : Going). r.run) l.runs
