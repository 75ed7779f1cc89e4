use Rattle.std.proofs.Common.{All, take}
use Rattle.cs_draft.specs.Draft.{KeepsPart}
use Rattle.cs_draft.proofs.parts.keep_parts.Given as goal

abbrev pub invariant-loop-part : goal.invariant-loop-part
invariant-loop-part l = All (KeepsPart l.old) (take l.part-index l.new)
