use Rattle.std.proofs.Common.{rules, ◌<◌, length}
use Rattle.cs_daemon.proofs.Storing.{write_next}
use Rattle.cs_daemon.proofs.stamps.Stored.write.Goals as goal

pub loop-job-preserved : goal.loop-job-preserved
loop-job-preserved g c =
    let lines = c.lines-lines.result.now in
    let less : c.loop-job.job < length lines = search rules in
    record {
      written =
          write_next g.S.StampStore.writes lines c.args.stamps.now c.args.self.now.stamps.items c.loop-job.self.stamps.items c.note.new.self.stamps.items
          c.loop-job.job c.in-Some.day c.write-done.result c.index-lines-job.result c.identifier.result.now c.args.store.now c.loop-job.store c.write-done.new.self
          less c.loop-job.invariant.written (search rules) (search rules) c.identifier.ensures c.write-done.ensures.writes c.note.ensures.stamps;
      faults = search rules;
    }
