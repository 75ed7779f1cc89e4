use Rattle.std.proofs.Common.{length}
use Rattle.cs_learn.proofs.reading.+read_logs.Given as goal

abbrev pub decreases-read_logs : goal.decreases-read_logs
decreases-read_logs g l = length l.paths.now
