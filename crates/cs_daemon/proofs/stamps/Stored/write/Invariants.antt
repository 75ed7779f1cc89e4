use Rattle.std.proofs.Common.{◌≤◌, ◌+◌}
use Rattle.cs_daemon.proofs.Storing.{AreWrittenBelow}
use Rattle.cs_daemon.proofs.stamps.Stored.write.Given as goal

abbrev pub invariant-loop-job : goal.invariant-loop-job
invariant-loop-job g l = record {
  written : AreWrittenBelow g.S.StampStore.writes l.lines l.stamps l.fn.self.stamps.items l.job l.fn.store l.self.stamps.items l.store;
  faults : l.self.faults + g.S.StampStore.failures l.fn.store ≤ l.fn.self.faults + g.S.StampStore.failures l.store;
}
