use Rattle.std.proofs.Common.{ap, sym, ◌∙◌}
use Rattle.std.specs.List.{list_any}
use Rattle.cs_plan.specs.Plan.{as_plan}
use Rattle.cs_history.specs.History.{is_free}
use Rattle.cs_locks.proofs.PlanHolds.{one_is_free_holds}
use Rattle.cs_core.specs.Standing.{Standing, going_holds, names, waiting_holds}
use Rattle.cs_core.proofs.Counted.{all_placed_in, all_take}
use Rattle.cs_core.proofs.event_core.Core.has_free_waiter.Goals as goal

pub returns : goal.returns
returns c =
    let p = as_plan c.self.inside.rules in
    let rs = c.self.inside.running in
    let ws = names c.self.inside.waiting in
    c.frees.ensures (going_holds p rs) (waiting_holds p ws) c.self.invariant.runs c.self.invariant.waits (all_take p ws c.self.invariant.takers) (all_placed_in p ws c.self.invariant.listed) ∙ sym (one_is_free_holds p rs ws)
    ∙ ap (λ (s : Standing). list_any (λ w. is_free (as_plan s.plan) s.state.running w.job) s.state.waiting) c.self.view_is
