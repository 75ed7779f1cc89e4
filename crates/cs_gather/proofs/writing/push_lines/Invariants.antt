use Rattle.std.proofs.Common.{◌≤◌, ◌+◌, length}
use Rattle.cs_gather.proofs.Walk.{IsWalked}
use Rattle.cs_gather.proofs.writing.push_lines.Given as goal

abbrev pub invariant-loop-rest : goal.invariant-loop-rest
invariant-loop-rest l =
    record {
      within : l.number + length l.rest ≤ length l.bytes;
      walked : IsWalked l.bytes l.rest l.number;
    }

abbrev pub decreases-loop-rest : goal.decreases-loop-rest
decreases-loop-rest l = length l.rest
