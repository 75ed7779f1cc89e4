use Rattle.std.proofs.Common.{◌≡◌, take}
use Rattle.cs_anacrontab.proofs.table.copy_jobs.Given as goal

abbrev pub invariant-loop-job : goal.invariant-loop-job
invariant-loop-job l = l.copies ≡ take l.job-index l.jobs
