use Rattle.std.proofs.Common.{◌≡◌, map, take}
use Rattle.cs_decl.specs.Join.{number_of}
use Rattle.cs_decl.proofs.naming.left_out_numbers.Given as goal

abbrev pub invariant-loop-name : goal.invariant-loop-name
invariant-loop-name l = l.numbers ≡ map (number_of l.lines) (take l.name-index l.entries.left_out)
