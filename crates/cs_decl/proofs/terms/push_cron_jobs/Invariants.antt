use Rattle.std.proofs.Common.{◌≡◌, ◌++◌, drop}
use Rattle.cs_decl.specs.Join.{cron_job, jobs_from}
use Rattle.cs_decl.proofs.terms.push_cron_jobs.Given as goal

abbrev pub invariant-loop-place : goal.invariant-loop-place
invariant-loop-place l = l.jobs ++ jobs_from (cron_job l.entries) l.place (drop l.place l.lines) ≡ l.fn.jobs ++ jobs_from (cron_job l.entries) 0 l.lines
