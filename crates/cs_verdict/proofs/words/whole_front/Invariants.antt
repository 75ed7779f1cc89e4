use Rattle.std.proofs.Common.{length}
use Rattle.cs_verdict.proofs.words.whole_front.Given as goal

abbrev pub decreases-loop-front : goal.decreases-loop-front
decreases-loop-front l = length l.front
