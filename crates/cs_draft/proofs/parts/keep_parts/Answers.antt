use Rattle.std.proofs.Common.{arith}
use Rattle.cs_draft.specs.Draft.{KeepsPart}
use Rattle.cs_draft.proofs.Loops.{one_more, to_the_end}
use Rattle.cs_draft.proofs.parts.keep_parts.Goals as goal

pub loop-part-preserved : goal.loop-part-preserved
loop-part-preserved c = one_more (KeepsPart c.args.old.now) c.args.new.now c.loop-part.part-index c.part-item.result (omega arith) c.part-item.is c.loop-part.invariant (c.keeps_part.ensures c.if-not-keeps_part.false)

pub returns : goal.returns
returns c = λ _. to_the_end (KeepsPart c.args.old.now) c.args.new.now c.loop-part.part-index (omega arith) c.loop-part.invariant
