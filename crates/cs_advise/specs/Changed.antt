use Rattle.std.specs.Prelude.{ℕ, set}
use Rattle.cs_plan.specs.Job.{DeclaredJob}
use Rattle.cs_plan.specs.Plan.{Declared, job_at}

abbrev pub job_with_max : DeclaredJob → ℕ → DeclaredJob
job_with_max job max = record job { max = max }

abbrev pub with_max : Declared → ℕ → ℕ → Declared
with_max d j max = record d { jobs = set d.jobs j (job_with_max (job_at d j) max) }
