use Rattle.std.proofs.Common.{◌≡◌, take}
use Rattle.cs_draft.proofs.parts.are_same_parts.Given as goal

abbrev pub invariant-loop-i : goal.invariant-loop-i
invariant-loop-i l = take l.i l.new ≡ take l.i l.old
