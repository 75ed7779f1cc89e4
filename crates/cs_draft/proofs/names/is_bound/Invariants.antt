use Rattle.std.proofs.Common.{All, take}
use Rattle.cs_draft.specs.Draft.{TellsLine}
use Rattle.cs_draft.proofs.names.is_bound.Given as goal

abbrev pub invariant-loop-line : goal.invariant-loop-line
invariant-loop-line l = All (TellsLine l.lines l.name) (take l.line-index l.lines)
