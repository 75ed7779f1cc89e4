use Rattle.std.proofs.Common.{List, ap, ◌∙◌}
use Rattle.cs_classes.specs.Work.{arrivals_in}
use Rattle.cs_plan.specs.Plan.{as_plan}
use Rattle.cs_wait.specs.declared.backlog.Piece.{Piece}
use Rattle.cs_wait.specs.Bounds.{following}
use Rattle.cs_classes.proofs.DayLists.{day_list_is}
use Rattle.cs_classes.proofs.worked.bound_on.Goals as goal

pub returns : goal.returns
returns c =
    let arrives = arrivals_in (as_plan c.args.plan.now) c.args.day.now c.args.group in
    let all = day_list_is c.arrivals_in-arrivals.result arrives c.arrivals_in-arrivals.ensures.long c.arrivals_in-arrivals.ensures.each in
    ap (λ (pieces : List Piece). record { group = c.args.group; backlog = pieces }) (c.in_ok-backlog.ensures.value ∙ ap (following c.args.carry) all)
