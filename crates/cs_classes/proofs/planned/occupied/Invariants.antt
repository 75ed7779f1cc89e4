use Rattle.std.proofs.Common.{◌≡◌, length, map}
use Rattle.cs_history.specs.Lists.{below}
use Rattle.cs_windows.specs.Occupied.{job_of}
use Rattle.cs_classes.specs.Planned.{planned_job}
use Rattle.cs_classes.proofs.planned.occupied.Given as goal

abbrev pub invariant-loop-number : goal.invariant-loop-number
invariant-loop-number l = (map job_of l.jobs.items ≡ map (planned_job l.plan l.reaches) (below l.number)) × (length l.jobs.items ≡ l.number)
