use Rattle.std.proofs.Common.{◌≡◌, ◌<◌, ℕ, true}
use Rattle.cs_classes.specs.Said.{said}
use Rattle.cs_classes.proofs.Alike.{job_alike}
use Rattle.cs_classes.proofs.unlike.is_alike.Given as goal

abbrev pub invariant-loop-job : goal.invariant-loop-job
invariant-loop-job l = (j : ℕ) → j < l.job → job_alike l.plan (said l.claim) l.kind j ≡ true
