use Rattle.std.proofs.Common.{length}
use Rattle.cs_retrace.proofs.retracing.retrace.Given as goal

abbrev pub decreases-loop-rest : goal.decreases-loop-rest
decreases-loop-rest l = length l.rest
