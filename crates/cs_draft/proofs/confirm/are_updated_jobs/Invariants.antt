use Rattle.std.proofs.Common.{All, take}
use Rattle.cs_draft.specs.Draft.{IsUpdatedJob}
use Rattle.cs_draft.proofs.confirm.are_updated_jobs.Given as goal

abbrev pub invariant-loop-job : goal.invariant-loop-job
invariant-loop-job l = All (IsUpdatedJob l.old l.max l.given l.new) (take l.job-index l.jobs)
