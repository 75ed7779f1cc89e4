use Rattle.std.proofs.Common.{◌≡◌, map, take}
use Rattle.cs_classes.specs.StandsFor.{distinct}
use Rattle.cs_classes.specs.Used.{classes_in}
use Rattle.cs_classes.proofs.working_out.distinct_lists.Given as goal

abbrev pub invariant-loop-chain : goal.invariant-loop-chain
invariant-loop-chain l = map (λ list. list.now) l.lists.keys ≡ distinct (map classes_in (take l.chain-index l.chains))
