use Rattle.std.proofs.Common.{◌≡◌, ◌++◌, map, take}
use Rattle.cs_machine.specs.Output.{dashed}
use Rattle.cs_machine.proofs.output.push_dashed.Given as goal

abbrev pub invariant-loop-byte : goal.invariant-loop-byte
invariant-loop-byte l = l.text.items ≡ l.fn.text.items ++ map dashed (take l.byte-index l.time)
