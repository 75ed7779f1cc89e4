use Rattle.std.proofs.Common.{arith}
use Rattle.cs_draft.specs.Draft.{TellsLine}
use Rattle.cs_draft.proofs.Loops.{one_more, to_the_end}
use Rattle.cs_draft.proofs.names.is_bound.Goals as goal

pub loop-line-preserved : goal.loop-line-preserved
loop-line-preserved c = one_more (TellsLine c.args.lines.now c.args.name.now) c.args.lines.now c.loop-line.line-index c.line-item.result (omega arith) c.line-item.is c.loop-line.invariant (c.tells_line.ensures c.if-not-tells_line.false)

pub returns : goal.returns
returns c = λ _. to_the_end (TellsLine c.args.lines.now c.args.name.now) c.args.lines.now c.loop-line.line-index (omega arith) c.loop-line.invariant
