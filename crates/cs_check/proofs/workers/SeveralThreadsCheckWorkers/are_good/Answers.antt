use Rattle.std.proofs.Common.{ap, ◌∙◌, refl}
use Rattle.rayon.proofs.ToStd.{slice-All}
use Rattle.cs_classes.specs.Said.{said}
use Rattle.cs_classes.specs.Used.{seen}
use Rattle.cs_classes.specs.Claim.{as_certificate}
use Rattle.cs_plan.specs.Plan.{as_plan}
use Rattle.cs_check.specs.Stretches.{IsGood}
use Rattle.cs_check.proofs.workers.SeveralThreadsCheckWorkers.are_good.Goals as goal

pub returns-then-good : goal.returns-then-good
returns-then-good g c t =
    let h = c.if-good.ensures in
    let slice = ap (λ it. it.slice.now) c.with_min_len.ensures.base ∙ c.par_iter.ensures in
    slice-All h.0 c.args.stretches.now (h.1 ∙ slice) (λ u. IsGood (as_plan c.args.case.now.plan.now) (as_certificate (said c.args.case.now.claim.now)) c.args.case.now.days (seen u)) (λ k d lt. h.2 k d lt refl)
