use Rattle.std.proofs.Common.{arith}
use Rattle.cs_draft.specs.Draft.{IsUpdatedLine, left_behind}
use Rattle.cs_draft.proofs.Loops.{one_more, to_the_end}
use Rattle.cs_draft.proofs.confirm.are_updated_lines.Goals as goal

pub loop-line-preserved : goal.loop-line-preserved
loop-line-preserved c = one_more (IsUpdatedLine c.args.lines.now c.args.places.now c.args.old.now (left_behind c.args.lines.now c.args.old.now) c.args.max c.args.given.now c.args.new.now) c.args.lines.now c.loop-line.line-index c.line-item.result (omega arith) c.line-item.is c.loop-line.invariant (rw c.left_behind-behind.ensures at (c.in_ok-is_updated_line.ensures c.if-not-branch.false))

pub returns : goal.returns
returns c = λ _. to_the_end (IsUpdatedLine c.args.lines.now c.args.places.now c.args.old.now (left_behind c.args.lines.now c.args.old.now) c.args.max c.args.given.now c.args.new.now) c.args.lines.now c.loop-line.line-index (omega arith) c.loop-line.invariant
