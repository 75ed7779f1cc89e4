use Rattle.std.proofs.Common.{◌≡◌, ◌++◌, drop, map}
use Rattle.cs_windows.specs.Occupied.{job_of}
use Rattle.cs_windows.specs.Windows.{windows_on}
use Rattle.cs_windows.proofs.list.windows_on.Given as goal

abbrev pub invariant-loop-place : goal.invariant-loop-place
invariant-loop-place l = l.windows.items ++ windows_on (map job_of l.occupied) (drop l.place l.days) ≡ windows_on (map job_of l.occupied) l.days
