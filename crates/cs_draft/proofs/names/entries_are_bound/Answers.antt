use Rattle.std.proofs.Common.{arith}
use Rattle.cs_draft.specs.Draft.{IsBound}
use Rattle.cs_draft.proofs.Loops.{one_more, to_the_end}
use Rattle.cs_draft.proofs.names.entries_are_bound.Goals as goal

pub loop-entry-preserved : goal.loop-entry-preserved
loop-entry-preserved c = one_more (λ e. IsBound c.args.lines.now e.name) c.args.entries.now c.loop-entry.entry-index c.entry-item.result (omega arith) c.entry-item.is c.loop-entry.invariant (c.is_bound.ensures c.if-not-is_bound.false)

pub returns : goal.returns
returns c = λ _. to_the_end (λ e. IsBound c.args.lines.now e.name) c.args.entries.now c.loop-entry.entry-index (omega arith) c.loop-entry.invariant
