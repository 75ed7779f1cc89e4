use Rattle.std.proofs.Common.{IfOk, subst, sym}
use Rattle.std.proofs.lemmas.Result.{IfOk-weaker}
use Rattle.cs_judge.specs.declared.judged.Judged.{Judged}
use Rattle.cs_cli.specs.Judge.{AreFindings}
use Rattle.cs_cli.proofs.findings.verdict_findings.Goals as goal

pub returns-in_ok-broken-in-Unsafe : goal.returns-in_ok-broken-in-Unsafe
returns-in_ok-broken-in-Unsafe c =
    subst (λ (j : Judged). IfOk c.alone.result (λ findings. AreFindings j findings.items)) (sym c.in-Unsafe.is)
    (IfOk-weaker c.alone.result _ _ (λ findings same. (c.in_ok-broken-in-Unsafe.field-0, c.in_ok-broken-in-Unsafe.ensures, same)) c.alone.ensures)

pub returns-in_ok-unknown-in-Unknown : goal.returns-in_ok-unknown-in-Unknown
returns-in_ok-unknown-in-Unknown c =
    subst (λ (j : Judged). IfOk c.alone-in-Unknown.result (λ findings. AreFindings j findings.items)) (sym c.in-Unknown.is)
    (IfOk-weaker c.alone-in-Unknown.result _ _ (λ findings same. (c.in_ok-unknown-in-Unknown.field-0, c.in_ok-unknown-in-Unknown.ensures, same)) c.alone-in-Unknown.ensures)
