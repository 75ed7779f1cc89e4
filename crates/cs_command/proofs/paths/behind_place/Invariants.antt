use Rattle.std.proofs.Common.{◌≡◌, length}
use Rattle.cs_command.specs.Locks.{behind_place}
use Rattle.cs_command.proofs.paths.behind_place.Given as goal

abbrev pub invariant-loop-rest : goal.invariant-loop-rest
invariant-loop-rest l = behind_place l.part l.rest ≡ behind_place l.part l.text

abbrev pub decreases-loop-rest : goal.decreases-loop-rest
decreases-loop-rest l = length l.rest
