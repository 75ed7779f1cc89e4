use Rattle.std.proofs.Common.{◌≡◌, drop}
use Rattle.std.specs.Prelude.{find}
use Rattle.cs_overlap.specs.Found.{clash_in}
use Rattle.cs_overlap.proofs.found.rival_of.Given as goal

abbrev pub invariant-loop-other : goal.invariant-loop-other
invariant-loop-other l = find (clash_in l.roles l.group l.one) l.others ≡ find (clash_in l.roles l.group l.one) (drop l.other-index l.others)
