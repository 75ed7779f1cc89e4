use Rattle.std.proofs.Common.{◌≡◌, ◌∙◌, List, ℕ, Some, ap, option_map, refl, subst, sym}
use Rattle.std.proofs.lemmas.Result.{IfOk-weaker}
use Rattle.cs_files.specs.Response.{status_of}
use Rattle.cs_files.specs.Trouble.{ends, trouble}
use Rattle.cs_findings.proofs.FormatLemmas.{itself}
use Rattle.cronsafe.proofs.responding.answer_fault.Goals as goal

pub returns-in_ok-out-in-BadInput : goal.returns-in_ok-out-in-BadInput
returns-in_ok-out-in-BadInput c =
    let some = subst (λ (w : List ℕ). option_map (ends w) (trouble c.args.fault.now) ≡ Some c.in_ok-plain.plain) c.as_slice.ensures c.in_ok-plain.ensures in
    IfOk-weaker c.in_format.result _ _ (λ e same. (c.in_ok-plain.plain, some, same, λ other. absurd (other (sym c.status.ensures ∙ ap status_of c.in-BadInput.is)))) c.in_format.ensures

pub returns-in_default : goal.returns-in_default
returns-in_default c =
    let some = subst (λ (w : List ℕ). option_map (ends w) (trouble c.args.fault.now) ≡ Some c.in_ok-plain.plain) c.as_slice.ensures c.in_ok-plain.ensures in
    (c.in_ok-plain.plain, some, itself c.args.form.format c.in_ok-plain.plain, λ other. refl)
