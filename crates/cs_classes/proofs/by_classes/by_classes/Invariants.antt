use Rattle.std.proofs.Common.{take}
use Rattle.cs_classes.specs.ByClasses.{LeadTo}
use Rattle.cs_classes.proofs.by_classes.by_classes.Given as goal

abbrev pub invariant-loop-chain : goal.invariant-loop-chain
invariant-loop-chain l = LeadTo (take l.chain-index l.chains) l.by
