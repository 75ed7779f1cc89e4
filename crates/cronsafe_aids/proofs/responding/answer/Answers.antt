use Rattle.std.proofs.Common.{◌≡◌, SFits, inr, rules, subst, to_z-of_z, true, w16, ℤ}
use Rattle.std.proofs.lemmas.Result.{IfOk-weaker}
use Rattle.cs_plan.specs.Plain.{is_possible_max}
use Rattle.cs_draft.specs.Answer.{PrintsDraft}
use Rattle.cronsafe_aids.proofs.responding.answer.Goals as goal

pub returns-in-Draft-clause-reply : goal.returns-in-Draft-clause-reply
returns-in-Draft-clause-reply g c =
    let fits : SFits w16 c.args.now.offset = search rules in
    let max = c.in-Draft.words.max in
    rw (c.in-Draft.is) (IfOk-weaker c.answer_draft.result _ _ (λ r is. subst (λ (n : ℤ). is_possible_max max ≡ true → PrintsDraft max n c.args.now.zone.now c.in-Draft.found r) (to_z-of_z fits) is) c.answer_draft.ensures.printed)

pub returns-in-Learn-clause-reply : goal.returns-in-Learn-clause-reply
returns-in-Learn-clause-reply g c = rw (c.in-Learn.is) c.answer_learn.ensures.printed

pub returns-in-Learn-clause-done : goal.returns-in-Learn-clause-done
returns-in-Learn-clause-done g c = IfOk-weaker c.answer_learn.result _ _ (λ r is. inr is) c.answer_learn.ensures.done
