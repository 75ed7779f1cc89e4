use Rattle.std.proofs.Common.{◌≡◌, drop}
use Rattle.cs_theorem.specs.Faults.{first_pair}
use Rattle.cs_overlap.specs.Found.{clash_in}
use Rattle.cs_overlap.proofs.found.first_clash.Given as goal

abbrev pub invariant-loop-place : goal.invariant-loop-place
invariant-loop-place l = first_pair (clash_in l.roles l.group) l.held ≡ first_pair (clash_in l.roles l.group) (drop l.place l.held)
