use Rattle.std.proofs.Common.{◌≡◌, ◌+◌, ◌++◌}
use Rattle.std.specs.Prelude.{map}
use Rattle.cs_history.specs.Lists.{below}
use Rattle.cs_plan.specs.Plan.{command_of, crons, job_at}
use Rattle.cs_chart.specs.Chart.{shown_of, terms_at, windows_of, windows_of_anacron}
use Rattle.cs_chart.proofs.row.plan_rows.Given as goal

abbrev pub invariant-loop-place : goal.invariant-loop-place
invariant-loop-place l = map shown_of l.rows.items
    ≡ map (λ j. windows_of l.plan.zone (command_of l.plan j).when (job_at l.plan j).max) (below l.place)

abbrev pub invariant-loop-place-2 : goal.invariant-loop-place-2
invariant-loop-place-2 l = map shown_of l.rows.items
    ≡ map (λ j. windows_of l.plan.zone (command_of l.plan j).when (job_at l.plan j).max) (below (crons l.plan))
    ++ map (λ j. windows_of_anacron (terms_at l.plan (crons l.plan + j))) (below l.place)
