use Rattle.std.proofs.Common.{take}
use Rattle.cs_check.specs.Stretches.{AreGood}
use Rattle.cs_check.proofs.workers.OneThreadCheckWorkers.are_good.Given as goal

abbrev pub invariant-loop-used : goal.invariant-loop-used
invariant-loop-used l = AreGood l.case (take l.used-index l.stretches)
