use Rattle.std.proofs.Common.{arith}
use Rattle.cs_draft.specs.Draft.{IsBound}
use Rattle.cs_draft.proofs.Loops.{one_more, to_the_end}
use Rattle.cs_draft.proofs.names.are_bound.Goals as goal

pub loop-name-preserved : goal.loop-name-preserved
loop-name-preserved c = one_more (IsBound c.args.lines.now) c.args.names.now c.loop-name.name-index c.name-item.result (omega arith) c.name-item.is c.loop-name.invariant (c.is_bound.ensures c.if-not-is_bound.false)

pub returns : goal.returns
returns c = λ _. to_the_end (IsBound c.args.lines.now) c.args.names.now c.loop-name.name-index (omega arith) c.loop-name.invariant
