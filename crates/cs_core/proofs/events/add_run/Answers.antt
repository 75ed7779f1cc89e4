use Rattle.std.proofs.Common.{arith}
use Rattle.cs_plan.specs.Plan.{as_plan}
use Rattle.cs_locks.proofs.Counts.{room}
use Rattle.cs_core.specs.Standing.{going_holds}
use Rattle.cs_core.proofs.Counted.{holds_counted}
use Rattle.cs_core.proofs.events.add_run.Goals as goal

pub add-requires-clause-room : goal.add-requires-clause-room
add-requires-clause-room c =
    let p = as_plan c.args.rules.now in
    room (going_holds p c.args.runs.now) c.args.locks.now (omega (arith, holds_counted p c.args.runs.now, c.in_ok-push.ensures.small)) c.requires.counted
