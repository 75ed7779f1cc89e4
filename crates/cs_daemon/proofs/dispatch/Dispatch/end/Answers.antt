use Rattle.std.proofs.Common.{◌≡◌, ◌∙◌, sym, arith}
use Rattle.cs_daemon.specs.Starts.{with_end}
use Rattle.cs_daemon.proofs.Ending.{ends, ended}
use Rattle.cs_daemon.proofs.Resting.{still_left}
use Rattle.cs_daemon.proofs.dispatch.Dispatch.end.Goals as goal

pub invariant_of-self : goal.invariant_of-self
invariant_of-self g c =
    let d = c.args.self.now in
    let e = c.step.ensures in
    let made : c.step.new.self ≡ with_end d.keep c.into_run.result = ends (c.step.new.seat ≡ c.args.seat.now) d.keep c.step.new.self c.into_run.result c.step.result e.legal e.event e.refused e.same in
    let k = ended d.keep c.step.new.self c.into_run.result made in
    record { plan = k.plan ∙ d.plan; place = omega (arith, k.longer, d.place); present = d.present ∙ sym k.now; left = still_left d.rest d.keep c.step.new.self c.into_run.result d.left made }
