use Rattle.std.proofs.Common.{◌≡◌, Some, inl, option_map, subst}
use Rattle.cs_args.specs.Asked.{asked_lint}
use Rattle.cs_files.specs.Trouble.{ends, trouble}
use Rattle.cs_files.proofs.TroubleLemmas.{honest_fault}
use Rattle.cs_lint.proofs.AnswerLemmas.{judged, unread_answer}
use Rattle.cs_lint.proofs.answer.lint_files.Goals as goal

pub returns-in_ok-show-in-Ok-clause-value : goal.returns-in_ok-show-in-Ok-clause-value
returns-in_ok-show-in-Ok-clause-value g c = λ fresh.
    let (err, judges) = c.in_ok-show-in-Ok.ensures.value in
    let held = c.in-Ok.ensures.held fresh in
    inl (
      c.in-Ok.ensures.works,
      err,
      judged (asked_lint c.args.request.now) (g.I.Inputs.whole c.args.inputs.now) c.in_ok-show-in-Ok.field-0.status _ _ _ held judges,
      c.in_ok-show-in-Ok.ensures.faults,
    )

pub returns-in_ok-response-in-Err-clause-value : goal.returns-in_ok-response-in-Err-clause-value
returns-in_ok-response-in-Err-clause-value g c = λ fresh.
    let fault = c.in-Err.fault in
    let r = c.in_ok-response-in-Err.field-0 in
    unread_answer (asked_lint c.args.request.now) (g.I.Inputs.whole c.args.inputs.now) (g.I.Inputs.failed c.args.inputs.now) (g.I.Inputs.failed c.texts_at.new.inputs) fault r (c.in-Err.ensures.told fresh)
    (subst (λ v. option_map (ends v) (trouble fault) ≡ Some r) c.as_slice.ensures c.in_ok-response-in-Err.ensures)

pub returns-in_ok-response-in-Err-clause-status : goal.returns-in_ok-response-in-Err-clause-status
returns-in_ok-response-in-Err-clause-status g c =
    honest_fault (g.I.Inputs.failed c.texts_at.new.inputs) (g.I.Inputs.reads c.texts_at.new.inputs) c.as_slice.result.now c.in-Err.fault c.in_ok-response-in-Err.field-0 c.in-Err.ensures.status c.in_ok-response-in-Err.ensures
