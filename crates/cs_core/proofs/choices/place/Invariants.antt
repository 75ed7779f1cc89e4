use Rattle.std.proofs.Common.{◌≡◌, ◌++◌, take, drop}
use Rattle.cs_history.specs.Lists.{placed}
use Rattle.cs_core.specs.Choices.{is_before}
use Rattle.cs_core.proofs.choices.place.Given as goal

abbrev pub invariant-loop-place : goal.invariant-loop-place
invariant-loop-place l = placed is_before l.run l.runs ≡ take l.place l.runs ++ placed is_before l.run (drop l.place l.runs)
