use Rattle.std.proofs.Common.{Err, [], IfSome, ap, inl, inr, map, refl, subst, sym}
use Rattle.std.proofs.lemmas.Result.{IfOk-weaker, err_from_is_err_and}
use Rattle.cs_args.specs.Asked.{asking}
use Rattle.cs_args.specs.CommandLine.{Parses}
use Rattle.cs_args.specs.declared.request.UsageFault.{UsageFault}
use Rattle.cs_files.specs.Response.{Ending}
use Rattle.cs_args.specs.declared.request.Format.{Format}
use Rattle.cs_files.specs.Trouble.{ends, trouble}
use Rattle.cs_files.proofs.AskedLemmas.{tries_nothing}
use Rattle.cs_findings.specs.Format.{IsShownAs}
use Rattle.cs_ruling.specs.declared.answer.Answer.TheVariants.{Ends}
use Rattle.cs_ruling.proofs.CheckLemmas.{ends_honest}
use Rattle.cronsafe.specs.Call.{AnswersAsked}
use Rattle.cronsafe.proofs.Replies.{fault_honest, fault_leads}
use Rattle.cronsafe.proofs.responding.respond.Goals as goal

pub returns-in-Ok-find_task-clause-value : goal.returns-in-Ok-find_task-clause-value
returns-in-Ok-find_task-clause-value g c = λ fresh.
    let (w, told, (warns, leads)) = c.in-Ok-find_task.ensures.value fresh in
    let a = asking c.in-Ok.request in
    (w, told, (inl (a, c.in-Ok.ensures, warns), IfOk-weaker c.answer.result _ _ (λ answer is. inl (a, c.in-Ok.ensures, leads answer is)) c.answer.ensures.reply))

pub returns-in-Ok-find_task-clause-status : goal.returns-in-Ok-find_task-clause-status
returns-in-Ok-find_task-clause-status g c = IfOk-weaker c.answer.result _ _ (λ answer other. ends_honest _ _ answer other) c.answer.ensures.done

pub returns-in_err-answer_fault-in-Err-clause-value : goal.returns-in_err-answer_fault-in-Err-clause-value
returns-in_err-answer_fault-in-Err-clause-value g c = λ fresh.
    let p = err_from_is_err_and c.from_residual.result c.from_residual.ensures.1 in
    let (w, told, (warns, came)) = c.in-Err.ensures.value fresh in
    rw (p.1) (w, told, (inl (asking c.in-Ok.request, c.in-Ok.ensures, warns), tt))

pub returns-in_ok-answer_fault-in-Err-clause-value : goal.returns-in_ok-answer_fault-in-Err-clause-value
returns-in_ok-answer_fault-in-Err-clause-value g c = λ fresh.
    let (w, told, (warns, came)) = c.in-Err.ensures.value fresh in
    let a = asking c.in-Ok.request in
    let leads = subst (λ (f : Format). IfSome (trouble c.in-Err.fault) (λ t. (ending : Ending) → IsShownAs f (ends [] t) ending → AnswersAsked a (g.I.Inputs.whole c.args.inputs.now) w (g.I.Inputs.failed c.args.inputs.now) (g.I.Inputs.failed c.find_task.new.inputs) (Ends ending))) (sym c.form_of-form.ensures) came in
    let answer = fault_leads c.form_of-form.result.format c.in-Err.fault (λ r. AnswersAsked a (g.I.Inputs.whole c.args.inputs.now) w (g.I.Inputs.failed c.args.inputs.now) (g.I.Inputs.failed c.find_task.new.inputs) (Ends r)) c.in_ok-answer_fault-in-Err.field-0 leads c.in_ok-answer_fault-in-Err.ensures in
    (w, told, (inl (a, c.in-Ok.ensures, warns), inl (a, c.in-Ok.ensures, answer)))

pub returns-in_ok-answer_fault-in-Err-clause-status : goal.returns-in_ok-answer_fault-in-Err-clause-status
returns-in_ok-answer_fault-in-Err-clause-status g c = fault_honest _ _ c.form_of-form.result.format c.in-Err.fault c.in_ok-answer_fault-in-Err.field-0 c.in-Err.ensures.status c.in_ok-answer_fault-in-Err.ensures

pub returns-in_err-version-in-Err-Version-clause-value : goal.returns-in_err-version-in-Err-Version-clause-value
returns-in_err-version-in-Err-Version-clause-value g c = λ fresh.
    let p = err_from_is_err_and c.from_residual-in_err-version-in-Err-Version.result c.from_residual-in_err-version-in-Err-Version.ensures.1 in
    rw (p.1) ([], tries_nothing _, (inr (refl, refl), tt))

pub returns-in_ok-version-in-Err-Version-clause-value : goal.returns-in_ok-version-in-Err-Version-clause-value
returns-in_ok-version-in-Err-Version-clause-value g c = λ fresh.
    let is = subst (λ (f : UsageFault). Parses (map g.S.AsStr.text c.args.words.now) (Err f)) c.in-Err-Version.field-0-is c.in-Err-Version.ensures in
    ([], tries_nothing _, (inr (refl, refl), inr (inr (inl (is, (refl, c.in_ok-version-in-Err-Version.ensures))))))

pub returns-in-Err-NoCall-clause-value : goal.returns-in-Err-NoCall-clause-value
returns-in-Err-NoCall-clause-value g c = λ fresh.
    let is = subst (λ (f : UsageFault). Parses (map g.S.AsStr.text c.args.words.now) (Err f)) c.in-Err-NoCall.field-0-is c.in-Err-NoCall.ensures in
    ([], tries_nothing _, (inr (refl, refl), inr (inr (inr (is, (refl, ap (λ (e : Ending). e.status) c.no_call.ensures, ap (λ (e : Ending). e.out) c.no_call.ensures))))))

pub returns-in-Err-OutOfMemory-clause-value : goal.returns-in-Err-OutOfMemory-clause-value
returns-in-Err-OutOfMemory-clause-value g c = λ fresh. ([], tries_nothing _, (inr (refl, refl), tt))
