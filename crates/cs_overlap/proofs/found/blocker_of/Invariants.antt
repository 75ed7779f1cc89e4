use Rattle.std.proofs.Common.{◌≡◌, drop}
use Rattle.std.specs.Prelude.{find}
use Rattle.cs_overlap.specs.Found.{role_blocks}
use Rattle.cs_overlap.proofs.found.blocker_of.Given as goal

abbrev pub invariant-loop-other : goal.invariant-loop-other
invariant-loop-other l = find (role_blocks l.roles l.minute l.skip) l.held ≡ find (role_blocks l.roles l.minute l.skip) (drop l.other-index l.held)
