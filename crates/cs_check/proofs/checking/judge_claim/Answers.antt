use Rattle.std.proofs.Common.{subst, sym, ◌∙◌}
use Rattle.cs_check.specs.Stretches.{AreGood}
use Rattle.cs_check.proofs.checking.judge_claim.Goals as goal

pub answer-requires-clause-good : goal.answer-requires-clause-good
answer-requires-clause-good g c good = subst (AreGood c.in_ok-case.case) (c.as_slice.ensures.value ∙ sym c.as_slice-2.ensures.value) (c.in_ok-good.ensures good)
