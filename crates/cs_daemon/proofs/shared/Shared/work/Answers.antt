use Rattle.std.proofs.Common.{rules}
use Rattle.cs_daemon.proofs.Carrying.{carried_on}
use Rattle.cs_daemon.proofs.shared.Shared.work.Goals as goal

pub loop-preserved-then-eq : goal.loop-preserved-then-eq
loop-preserved-then-eq g c =
    record {
      parts = search rules;
      runs =
          carried_on g.W.Runner.runs c.args.self.now.plan.now c.args.self.now.owners c.args.seat.share c.loop.seat.share c.run_job.new.seat.share c.in-Some-next.taken c.run_job.result
          c.args.runner.now c.loop.runner c.run_job.new.runner c.loop.invariant.runs c.run_job.ensures.runs c.run_job.ensures.one;
    }

pub loop-preserved : goal.loop-preserved
loop-preserved g c =
    record {
      parts = search rules;
      runs =
          carried_on g.W.Runner.runs c.args.self.now.plan.now c.args.self.now.owners c.args.seat.share c.loop.seat.share c.run_job.new.seat.share c.in-Some-next.taken c.run_job.result
          c.args.runner.now c.loop.runner c.run_job.new.runner c.loop.invariant.runs c.run_job.ensures.runs c.run_job.ensures.one;
    }
