use Rattle.std.proofs.Common.{◌≡◌, ◌++◌, map, take}
use Rattle.cs_verdict.specs.Story.{on_one_line}
use Rattle.cs_verdict.proofs.words.push_on_one_line.Given as goal

abbrev pub invariant-loop-byte : goal.invariant-loop-byte
invariant-loop-byte l = l.text.items ≡ l.fn.text.items ++ map on_one_line (take l.byte-index l.words)
