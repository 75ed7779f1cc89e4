use Rattle.std.proofs.Common.{vec_len}
use Rattle.cs_daemon.proofs.threads.+with_workers.Given as goal

abbrev pub decreases-with_workers : goal.decreases-with_workers
decreases-with_workers g l = vec_len l.runners
