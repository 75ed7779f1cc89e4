use Rattle.std.proofs.Common.{subst, arith}
use Rattle.std.proofs.lemmas.List.{take_all}
use Rattle.std.proofs.lemmas.List.Elements.{All-more}
use Rattle.cs_classes.specs.Said.{said}
use Rattle.cs_classes.specs.Used.{seen}
use Rattle.cs_classes.specs.declared.used.UsedStretch.{UsedStretch}
use Rattle.cs_classes.specs.Claim.{as_certificate}
use Rattle.cs_plan.specs.Plan.{as_plan}
use Rattle.cs_check.specs.Stretches.{AreGood, IsGood}
use Rattle.cs_check.proofs.workers.OneThreadCheckWorkers.are_good.Goals as goal

pub loop-used-preserved : goal.loop-used-preserved
loop-used-preserved c =
    let here = subst (λ (u : UsedStretch). IsGood (as_plan c.args.case.now.plan.now) (as_certificate (said c.args.case.now.claim.now)) c.args.case.now.days (seen u)) c.used-item.is (c.in_ok-is_good.ensures c.if-not-branch.false) in
    All-more (λ u. IsGood (as_plan c.args.case.now.plan.now) (as_certificate (said c.args.case.now.claim.now)) c.args.case.now.days (seen u)) c.args.stretches.now c.loop-used.used-index c.used-item.result (omega arith) c.loop-used.invariant here

pub returns : goal.returns
returns c = λ _. subst (AreGood c.args.case.now) (take_all c.loop-used.used-index c.args.stretches.now (omega arith)) c.loop-used.invariant
