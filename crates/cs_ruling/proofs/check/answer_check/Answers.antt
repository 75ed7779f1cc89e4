use Rattle.std.proofs.Common.{◌≡◌, ◌∙◌, Result, ap, option_map, subst, sym}
use Rattle.cs_claims.specs.Certificate.{content}
use Rattle.cs_check.specs.Case.{fault_of}
use Rattle.cs_check.specs.declared.checked.Checked.{Checked}
use Rattle.cs_theorem.specs.declared.check_fault.CheckFault.{CheckFault}
use Rattle.cs_plan.specs.Plan.{Declared}
use Rattle.cs_report.specs.Warning.{plan_notes}
use Rattle.cs_files.specs.Response.{Ending, done}
use Rattle.cs_ruling.specs.Check.{IsVerdictOn, refusal_of, safe_text}
use Rattle.cs_ruling.specs.declared.check.Claimed.{Claimed}
use Rattle.cs_ruling.proofs.CheckLemmas.{accepted, refused_reply}
use Rattle.cs_ruling.proofs.check.answer_check.Goals as goal

pub returns-in_ok-answer-in-Ok-clause-answer : goal.returns-in_ok-answer-in-Ok-clause-answer
returns-in_ok-answer-in-Ok-clause-answer g c = λ digests.
    let r = c.in_ok-ruled.ensures in
    let x : Claimed = record { planned = c.args.planned.now; certificate = c.args.certificate; digests = digests } in
    let is = accepted x c.in-Ok.checked c.as_slice.result.now c.in_ok-ruled.ruled c.as_slice.ensures c.in-Ok.is r.answer r.same r.safe in
    let same = ap (λ (d : Declared). done safe_text (plan_notes d)) (sym c.plan.ensures) in
    record {
      verdict = subst (IsVerdictOn x) (same ∙ sym c.in_ok-answer-in-Ok.ensures) is.verdict;
      safe = λ zero. (c.in-Ok.checked, is);
    }

pub returns-in_ok-answer-in-Ok-clause-fault : goal.returns-in_ok-answer-in-Ok-clause-fault
returns-in_ok-answer-in-Ok-clause-fault g c = subst (λ (r : Result Checked (Ending × CheckFault)). refusal_of r ≡ fault_of c.args.planned.now.plan (content c.args.certificate)) c.in-Ok.is c.in_ok-ruled.ensures.fault

pub returns-in-Err-clause-answer : goal.returns-in-Err-clause-answer
returns-in-Err-clause-answer g c = λ digests.
    let r = c.in_ok-ruled.ensures in
    let x : Claimed = record { planned = c.args.planned.now; certificate = c.args.certificate; digests = digests } in
    refused_reply x c.in-Err.refused c.as_slice.result.now c.in_ok-ruled.ruled c.as_slice.ensures c.in-Err.is r.answer r.refused

pub returns-in-Err-clause-fault : goal.returns-in-Err-clause-fault
returns-in-Err-clause-fault g c = subst (λ (r : Result Checked (Ending × CheckFault)). refusal_of r ≡ fault_of c.args.planned.now.plan (content c.args.certificate)) c.in-Err.is c.in_ok-ruled.ensures.fault
