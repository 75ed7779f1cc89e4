use Rattle.std.proofs.Common.{◌≡◌, map, take}
use Rattle.cs_advise.specs.Edit.{blank_control}
use Rattle.cs_advise.proofs.edit.on_one_line.Given as goal

abbrev pub invariant-loop-byte : goal.invariant-loop-byte
invariant-loop-byte l = l.line.items ≡ map blank_control (take l.byte-index l.text)
