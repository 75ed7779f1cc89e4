use Rattle.std.proofs.Common.{◌≡◌, ◌++◌, take, flat_map}
use Rattle.cs_gather.specs.Gathered.{in_word}
use Rattle.cs_gather.proofs.comment.push_user.Given as goal

abbrev pub invariant-loop-byte : goal.invariant-loop-byte
invariant-loop-byte l = l.text.items ≡ l.fn.text.items ++ flat_map in_word (take l.byte-index l.bytes)
