use Rattle.cs_claims.specs.Certificate.{content}
use Rattle.cs_check.proofs.Fitting.{fits}
use Rattle.cs_check.proofs.checking.look_at.Goals as goal

pub returns : goal.returns
returns c = fits c.args.plan.now (content c.args.certificate.now) c.jobs-jobs.ensures.resolved c.jobs-jobs.ensures.limits c.reach-reach.ensures.kept
