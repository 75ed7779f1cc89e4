use Rattle.std.proofs.Common.{◌≡◌, drop}
use Rattle.cs_daemon.specs.Starts.{starts_in}
use Rattle.cs_daemon.proofs.dispatch.next_start.Given as goal

abbrev pub invariant-loop-place : goal.invariant-loop-place
invariant-loop-place l = starts_in (drop l.place l.journal) ≡ starts_in (drop l.from l.journal)
