use Rattle.std.proofs.Common.{◌≡◌, map, drop}
use Rattle.std.specs.List.{list_all}
use Rattle.cs_windows.specs.Occupied.{job_of}
use Rattle.cs_classes.specs.Fitting.{job_fits}
use Rattle.cs_classes.proofs.fitting.all_fit.Given as goal

abbrev pub invariant-loop-job : goal.invariant-loop-job
invariant-loop-job l = list_all (job_fits l.days) (map job_of (drop l.job-index l.jobs)) ≡ list_all (job_fits l.days) (map job_of l.jobs)
