use Rattle.std.proofs.Common.{◌≡◌, ◌++◌, map}
use Rattle.cs_table.specs.Environment.{shown}
use Rattle.cs_table.proofs.environment.copied.Given as goal

abbrev pub invariant-loop-name : goal.invariant-loop-name
invariant-loop-name l = l.copies.items ++ map shown l.name-iterator ≡ map shown l.variables.entries
