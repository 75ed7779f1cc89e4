use Rattle.std.proofs.Common.{All, take}
use Rattle.cs_draft.specs.Draft.{IsUpdatedLine, left_behind}
use Rattle.cs_draft.proofs.confirm.are_updated_lines.Given as goal

abbrev pub invariant-loop-line : goal.invariant-loop-line
invariant-loop-line l = All (IsUpdatedLine l.lines l.places l.old (left_behind l.lines l.old) l.max l.given l.new) (take l.line-index l.lines)
