use Rattle.std.proofs.Common.{◌≡◌, ◌++◌, take}
use Rattle.std.specs.Prelude.{map}
use Rattle.cs_zone.specs.Zone.{no_zone}
use Rattle.cs_chart.specs.Chart.{shown_of, windows_of, windows_of_anacron}
use Rattle.cs_chart.proofs.row.table_rows.Given as goal

abbrev pub invariant-loop-line : goal.invariant-loop-line
invariant-loop-line l = map shown_of l.rows.items ≡ map (λ line. windows_of no_zone line.when l.terms.max) (take l.line-index l.table.lines)

abbrev pub invariant-loop-job : goal.invariant-loop-job
invariant-loop-job l = map shown_of l.rows.items
    ≡ map (λ line. windows_of no_zone line.when l.terms.max) l.table.lines ++ map (λ job. windows_of_anacron l.terms) (take l.job-index l.jobs.lines)
