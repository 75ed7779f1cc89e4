use Rattle.std.proofs.Common.{All, take}
use Rattle.cs_draft.specs.Draft.{IsBound}
use Rattle.cs_draft.proofs.names.are_bound.Given as goal

abbrev pub invariant-loop-name : goal.invariant-loop-name
invariant-loop-name l = All (IsBound l.lines) (take l.name-index l.names)
