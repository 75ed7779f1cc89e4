use Rattle.std.proofs.Common.{◌≡◌}
use Rattle.cs_daemon.proofs.Resting.{left_down, same_left}
use Rattle.cs_daemon.proofs.dispatch.Dispatch.go_down.Goals as goal

pub invariant_of-self-clause-left : goal.invariant_of-self-clause-left
invariant_of-self-clause-left g c =
    let d = c.args.self.now in
    let rest = c.minute_of_rest-rest in
    let e = c.step.ensures in
    same_left rest.result c.step.new.self c.audit.new.self
    (left_down (c.step.new.seat ≡ c.args.seat.now) rest.result d.keep c.step.new.self c.step.result rest.ensures.kept rest.ensures.rest e.event e.same) c.audit.ensures.keep
