use Rattle.std.proofs.Common.{take}
use Rattle.cs_decl.proofs.Numbers.{HasNumbers}
use Rattle.cs_decl.proofs.twice.set_of.Given as goal

abbrev pub invariant-loop-number : goal.invariant-loop-number
invariant-loop-number l = HasNumbers l.set.keys (take l.number-index l.numbers)
