use Rattle.std.proofs.Common.{inl, inr, subst}
use Rattle.cs_decl.specs.Join.{joined}
use Rattle.cs_decl.specs.Meaning.{declared_by}
use Rattle.cs_plan.specs.Answers.{Fails}
use Rattle.cs_plan.specs.declared.fault.DeclError.{DeclError}
use Rattle.cs_lint.proofs.refusal.plan_or_refusal.Goals as goal

pub returns-in-Err-At : goal.returns-in-Err-At
returns-in-Err-At c = (_, inl (subst (λ (e : DeclError). Fails e (declared_by c.args.text.now)) c.in-Err-At.field-0-is c.in-Err-At.ensures))

pub returns-in-Err-At-join : goal.returns-in-Err-At-join
returns-in-Err-At-join c =
    let stands = subst (λ (e : DeclError). Fails e (joined c.args.table c.args.jobs c.in-Ok.declarations)) c.in-Err-At-join.field-0-is c.in-Err-At-join.ensures in
    (_, inr (c.in-Ok.declarations, c.in-Ok.ensures, stands))
