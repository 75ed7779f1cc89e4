use Rattle.std.proofs.Common.{ap, not, sym, ◌∙◌}
use Rattle.std.specs.List.{list_any}
use Rattle.cs_plan.specs.Plan.{as_plan}
use Rattle.cs_history.specs.History.{is_free}
use Rattle.cs_locks.proofs.PlanHolds.{is_free_holds}
use Rattle.cs_locks.specs.Locks.{bars}
use Rattle.cs_core.specs.Standing.{Standing, going_holds}
use Rattle.cs_core.proofs.event_core.Core.is_free.Goals as goal

pub returns : goal.returns
returns c =
    let p = as_plan c.self.inside.rules in
    let rs = c.self.inside.running in
    c.is_free.ensures (going_holds p rs) c.self.invariant.runs ∙ ap (λ h. not (list_any (bars h) (going_holds p rs))) c.hold.ensures ∙ sym (is_free_holds p rs c.args.job)
    ∙ ap (λ (s : Standing). is_free (as_plan s.plan) s.state.running c.args.job) c.self.view_is
