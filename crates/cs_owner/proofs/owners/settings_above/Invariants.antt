use Rattle.std.proofs.Common.{length}
use Rattle.cs_owner.proofs.Notes.{AreSoFar}
use Rattle.cs_owner.proofs.owners.settings_above.Given as goal

abbrev pub invariant-loop-rest : goal.invariant-loop-rest
invariant-loop-rest l = AreSoFar l.line l.table l.text l.number l.rest l.settings

abbrev pub decreases-loop-rest : goal.decreases-loop-rest
decreases-loop-rest l = length l.rest
