use Rattle.std.proofs.Common.{◌<◌, subst}
use Rattle.cs_plan.specs.Plan.{Declared}
use Rattle.cs_daemon.specs.Stamps.{AreWritten}
use Rattle.cs_daemon.proofs.Causing.{went_back}
use Rattle.cs_daemon.proofs.shared.Shared.go_on.Goals as goal

pub returns-clause-back : goal.returns-clause-back
returns-clause-back g c =
    went_back (c.args.minute < c.args.last) c.round-round.result.ticked c.cause_to_end.result c.cause_to_end.ensures.back c.round-round.ensures.back

pub returns-clause-written : goal.returns-clause-written
returns-clause-written g c =
    let stamps = c.round-round.result.stamps in (
      stamps,
      c.round-round.ensures.left,
      subst (λ (d : Declared). AreWritten g.S.StampStore.writes d.anacrontab.lines stamps c.args.stored.now.stamps.items c.args.store.now c.write-failed.new.self.stamps.items c.write-failed.new.store)
          c.args.self.now.same c.write-failed.ensures.written,
    )
