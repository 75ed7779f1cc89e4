use Rattle.std.proofs.Common.{◌≡◌, ◌+◌, take}
use Rattle.std.specs.Prelude.{sum_by}
use Rattle.cs_report.proofs.warning.fit_together.Given as goal

abbrev pub invariant-loop-job : goal.invariant-loop-job
invariant-loop-job l = sum_by (λ job. job.weight) (take l.job-index l.jobs) + l.left ≡ l.capacity
