use Rattle.std.proofs.Common.{All, take}
use Rattle.cs_draft.specs.Answer.{IsOfTables}
use Rattle.cs_draft.proofs.answer.first_unknown.Given as goal

abbrev pub invariant-loop-one : goal.invariant-loop-one
invariant-loop-one l = All (IsOfTables l.lines l.jobs) (take l.one-index l.given)
