use Rattle.std.proofs.Common.{take}
use Rattle.std.specs.List.{AllZip}
use Rattle.cs_owner.specs.Owners.{IsOwner}
use Rattle.cs_owner.proofs.owners.read_owners.Given as goal

abbrev pub invariant-loop-line : goal.invariant-loop-line
invariant-loop-line l = AllZip (IsOwner l.bytes l.places) (take l.line-index l.line-items) l.owners
