use Rattle.std.proofs.Common.{Err, [], ap, inl, inr, map, refl, subst}
use Rattle.std.proofs.lemmas.Result.{IfOk-weaker}
use Rattle.cs_args.specs.Asked.{asking}
use Rattle.cs_args.specs.CommandLine.{Parses}
use Rattle.cs_args.specs.declared.request.UsageFault.{UsageFault}
use Rattle.cs_files.specs.Response.{Ending}
use Rattle.cs_files.proofs.AskedLemmas.{tries_nothing}
use Rattle.cronsafe_aids.specs.Call.{AnswersText, form_of}
use Rattle.cronsafe_aids.proofs.Replies.{fault_in_form, honest_in_form, honest_reply}
use Rattle.cronsafe_aids.proofs.responding.respond.Goals as goal

pub returns-in-Ok-find_task-clause-value : goal.returns-in-Ok-find_task-clause-value
returns-in-Ok-find_task-clause-value g c = λ fresh.
    let (w, told, (warns, leads)) = c.in-Ok-find_task.ensures.value fresh in
    let a = asking c.in-Ok.request in
    (w, told, (inl (a, c.in-Ok.ensures, warns), IfOk-weaker c.answer.result _ _ (λ r is. inl (a, c.in-Ok.ensures, leads r is)) c.answer.ensures.reply))

pub returns-in-Ok-find_task-clause-status : goal.returns-in-Ok-find_task-clause-status
returns-in-Ok-find_task-clause-status g c = IfOk-weaker c.answer.result _ _ (λ r done. honest_reply _ (asking c.in-Ok.request) _ _ c.in-Ok-find_task.task r c.in-Ok.ensures c.in-Ok-find_task.ensures.ready done) c.answer.ensures.done

pub returns-in-Err-clause-value : goal.returns-in-Err-clause-value
returns-in-Err-clause-value g c = λ fresh.
    let (w, told, (warns, came)) = c.in-Err.ensures.value fresh in
    let a = asking c.in-Ok.request in
    let Answered : Ending → Type 0 = AnswersText c.args.now a g.I.Folders.tree (g.I.Inputs.whole c.args.inputs.now) w (g.I.Inputs.failed c.args.inputs.now) (g.I.Inputs.failed c.find_task.new.inputs) in
    (w, told, (inl (a, c.in-Ok.ensures, warns), IfOk-weaker c.answer_fault.result _ _ (λ r said. inl (a, c.in-Ok.ensures, fault_in_form Answered _ (form_of a) c.in-Err.fault r c.words_in_form-words.ensures came said)) c.answer_fault.ensures.value))

pub returns-in-Err-clause-status : goal.returns-in-Err-clause-status
returns-in-Err-clause-status g c = IfOk-weaker c.answer_fault.result _ _ (λ r said. inr (honest_in_form _ _ c.in-Err.fault r c.in-Err.ensures.status said)) c.answer_fault.ensures.status

pub returns-in-Err-Version-clause-value : goal.returns-in-Err-Version-clause-value
returns-in-Err-Version-clause-value g c = λ fresh.
    let asks = subst (λ (f : UsageFault). Parses (map g.S.AsStr.text c.args.words.now) (Err f)) c.in-Err-Version.field-0-is c.in-Err-Version.ensures in
    ([], tries_nothing _, (inr (refl, refl), IfOk-weaker c.version.result _ _ (λ r is. inr (inr (inl (asks, (refl, is))))) c.version.ensures))

pub returns-in-Err-NoCall-clause-value : goal.returns-in-Err-NoCall-clause-value
returns-in-Err-NoCall-clause-value g c = λ fresh.
    let asks = subst (λ (f : UsageFault). Parses (map g.S.AsStr.text c.args.words.now) (Err f)) c.in-Err-NoCall.field-0-is c.in-Err-NoCall.ensures in
    ([], tries_nothing _, (inr (refl, refl), inr (inr (inr (asks, (refl, ap (λ (e : Ending). e.status) c.no_call.ensures, ap (λ (e : Ending). e.out) c.no_call.ensures))))))

pub returns-in-Err-OutOfMemory-clause-value : goal.returns-in-Err-OutOfMemory-clause-value
returns-in-Err-OutOfMemory-clause-value g c = λ fresh. ([], tries_nothing _, (inr (refl, refl), tt))
