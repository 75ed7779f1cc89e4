use Rattle.std.proofs.Common.{◌≡◌, ◌++◌, drop, map}
use Rattle.cs_windows.specs.Occupied.{job_of}
use Rattle.cs_next.specs.Next.{job_starts, line_starts, starts_on}
use Rattle.cs_next.proofs.starts.occupied_on.Given as goal

abbrev pub invariant-loop-line : goal.invariant-loop-line
invariant-loop-line l =
    map job_of l.occupied.items ++ map (line_starts l.from l.day) (drop l.line-index l.lines)
    ≡ map (line_starts l.from l.day) l.lines

abbrev pub invariant-loop-job : goal.invariant-loop-job
invariant-loop-job l =
    map job_of l.occupied.items ++ map (job_starts l.from l.day) (drop l.job-index l.jobs)
    ≡ starts_on l.from l.day l.lines l.jobs
