use Rattle.std.proofs.Common.{◌≡◌, take}
use Rattle.cs_draft.proofs.kept.begin_with.Given as goal

abbrev pub invariant-loop-i : goal.invariant-loop-i
invariant-loop-i l = take l.i l.new ≡ take l.i l.old
