use Rattle.std.proofs.Common.{◌≡◌, ◌≤◌, ◌+◌, take}
use Rattle.arrayvec.specs.ArrayVec.{array_vec_len}
use Rattle.cs_daemon.specs.Stamps.{AreRead}
use Rattle.cs_daemon.proofs.stamps.Stored.read.Given as goal

abbrev pub invariant-loop-job : goal.invariant-loop-job
invariant-loop-job g l = record {
  read : AreRead g.S.StampStore.reads (take l.job l.lines) l.fn.store l.stamps.items l.store;
  few : array_vec_len l.stamps ≡ l.job;
  faults : l.faults + g.S.StampStore.failures l.fn.store ≤ g.S.StampStore.failures l.store;
}
