use Rattle.std.proofs.Common.{◌≡◌, ◌++◌, drop, map}
use Rattle.cs_overlap.specs.Split.{share_in}
use Rattle.cs_overlap.proofs.split.shares.Given as goal

abbrev pub invariant-loop-role : goal.invariant-loop-role
invariant-loop-role l = map share_in l.roles ≡ l.found.items ++ map share_in (drop l.role-index l.roles)
