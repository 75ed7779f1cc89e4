use Rattle.std.proofs.Common.{arith}
use Rattle.cs_draft.specs.Draft.{IsUpdatedJob}
use Rattle.cs_draft.proofs.Loops.{one_more, to_the_end}
use Rattle.cs_draft.proofs.confirm.are_updated_jobs.Goals as goal

pub loop-job-preserved : goal.loop-job-preserved
loop-job-preserved c = one_more (IsUpdatedJob c.args.old.now c.args.max c.args.given.now c.args.new.now) c.args.jobs.now c.loop-job.job-index c.job-item.result (omega arith) c.job-item.is c.loop-job.invariant (c.is_updated_job.ensures c.if-not-is_updated_job.false)

pub returns : goal.returns
returns c = λ _. to_the_end (IsUpdatedJob c.args.old.now c.args.max c.args.given.now c.args.new.now) c.args.jobs.now c.loop-job.job-index (omega arith) c.loop-job.invariant
