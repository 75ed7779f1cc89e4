use Rattle.cs_claims.specs.Certificate.{content}
use Rattle.cs_classes.proofs.WorkedClasses.{as_many, judged_is}
use Rattle.cs_classes.proofs.claiming.claim_by.Goals as goal

pub invariant_of-result : goal.invariant_of-result
invariant_of-result c = record { kept = as_many c.args.plan.now (content c.args.certificate.now) c.args.worked.now c.requires }

pub returns : goal.returns
returns c = judged_is c.args.plan.now (content c.args.certificate.now) c.args.worked.now c.requires
