use Rattle.std.proofs.Common.{inr}
use Rattle.std.proofs.lemmas.Result.{IfOk-weaker, err_from_is_err_and}
use Rattle.cs_args.specs.Asked.{asked_run}
use Rattle.cs_files.proofs.AskedLemmas.{fault_answered}
use Rattle.cs_ruling.proofs.CheckLemmas.{run_stopped}
use Rattle.cs_ruling.specs.Answer.{AnswersRun}
use Rattle.cs_ruling.specs.declared.answer.Answer.TheVariants.{Ends}
use Rattle.cs_serve.proofs.anew.answer_anew.Goals as goal

pub returns-in-Ok : goal.returns-in-Ok
returns-in-Ok g c =
    let (w, told, (warns, came)) = c.in-Ok.ensures.value c.requires in
    IfOk-weaker c.answer_run_alone.result _ _ (λ answer is. (w, inr (c.in-Ok.claimed, came, is))) c.answer_run_alone.ensures

pub returns-in_err-response-in-Err : goal.returns-in_err-response-in-Err
returns-in_err-response-in-Err g c =
    let p = err_from_is_err_and c.from_residual.result c.from_residual.ensures.1 in
    rw (p.1) tt

pub returns-in_ok-response-in-Err : goal.returns-in_ok-response-in-Err
returns-in_ok-response-in-Err g c =
    let (w, told, (warns, came)) = c.in-Err.ensures.value c.requires in
    let a = asked_run c.args.words in
    let stopped = run_stopped a (g.I.Inputs.whole c.args.inputs.now) w (g.I.Inputs.failed c.args.inputs.now) (g.I.Inputs.failed c.find_claimed.new.inputs) c.in-Err.fault came in
    (w, fault_answered (λ r. AnswersRun a (g.I.Inputs.whole c.args.inputs.now) w (g.I.Inputs.failed c.args.inputs.now) (g.I.Inputs.failed c.find_claimed.new.inputs) (Ends r)) c.as_slice.result.now c.in-Err.fault c.in_ok-response-in-Err.field-0 c.as_slice.ensures stopped c.in_ok-response-in-Err.ensures)
