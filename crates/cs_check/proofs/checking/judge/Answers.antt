use Rattle.std.proofs.Common.{◌≡◌, Option, None, subst, sym}
use Rattle.std.specs.Prelude.{IfErr, OnOk}
use Rattle.cs_theorem.specs.Faults.{Fault}
use Rattle.cs_claims.specs.Certificate.{content}
use Rattle.cs_classes.specs.Said.{said}
use Rattle.cs_classes.specs.Claim.{Claimed}
use Rattle.cs_check.specs.Case.{IsFit}
use Rattle.cs_check.specs.Checked.{Tells}
use Rattle.cs_check.proofs.Headline.{same_fault}
use Rattle.cs_check.proofs.checking.judge.Goals as goal

pub judge_claim-requires-clause-fit : goal.judge_claim-requires-clause-fit
judge_claim-requires-clause-fit g c = subst (λ (k : Claimed). IsFit c.args.plan.now k.reach) (sym c.claim_by.ensures) c.requires.fit

pub returns-clause-ok : goal.returns-clause-ok
returns-clause-ok g c = subst (λ (o : Option Fault). OnOk c.judge_claim.result (o ≡ None)) (same_fault c.args.plan.now (content c.args.certificate.now) (said c.claim_by.result) c.claim_by.ensures) c.judge_claim.ensures.ok

pub returns-clause-fault : goal.returns-clause-fault
returns-clause-fault g c = subst (λ (o : Option Fault). IfErr c.judge_claim.result (Tells o)) (same_fault c.args.plan.now (content c.args.certificate.now) (said c.claim_by.result) c.claim_by.ensures) c.judge_claim.ensures.fault
