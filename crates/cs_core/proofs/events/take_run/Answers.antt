use Rattle.std.proofs.Common.{subst, sym}
use Rattle.cs_plan.specs.Plan.{as_plan}
use Rattle.cs_locks.specs.Locks.{IsCounted, IsWithOne}
use Rattle.cs_roster.specs.Roster.{others}
use Rattle.cs_core.specs.Standing.{going_holds}
use Rattle.cs_core.proofs.Counted.{holds_less}
use Rattle.cs_core.proofs.events.take_run.Goals as goal

pub returns-clause-counted : goal.returns-clause-counted
returns-clause-counted c =
    let p = as_plan c.args.rules.now in
    let runs = c.args.runs.now in
    let run = c.args.run in
    let less = subst (λ h. IsWithOne h (going_holds p (others runs run)) (going_holds p runs)) (sym c.hold.ensures) (holds_less p run runs c.requires.once c.requires.there) in
    subst (λ xs. IsCounted (going_holds p xs) c.take.new.self) (sym c.remove.ensures) (c.take.ensures (going_holds p runs) (going_holds p (others runs run)) less c.requires.counted)
