use Rattle.std.proofs.Common.{drop, map}
use Rattle.cs_windows.specs.Links.{AreBegun}
use Rattle.cs_windows.specs.Occupied.{job_of}
use Rattle.cs_windows.proofs.list.link_jobs.Given as goal

abbrev pub invariant-loop-job : goal.invariant-loop-job
invariant-loop-job l = AreBegun l.links.items l.firsts l.day l.day_back l.job (map job_of (drop l.job l.occupied))
