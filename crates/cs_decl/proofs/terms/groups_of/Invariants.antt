use Rattle.std.proofs.Common.{◌≡◌, map, take}
use Rattle.cs_decl.specs.Join.{declared_group}
use Rattle.cs_decl.proofs.terms.groups_of.Given as goal

abbrev pub invariant-loop-entry : goal.invariant-loop-entry
invariant-loop-entry l = l.groups ≡ map declared_group (take l.entry-index l.entries)
