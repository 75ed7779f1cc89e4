use Rattle.std.proofs.Common.{◌≡◌, ◌∙◌, subst, sym, arith}
use Rattle.cs_classes.specs.Said.{said}
use Rattle.cs_classes.specs.Claim.{as_certificate}
use Rattle.cs_classes.specs.Used.{seen}
use Rattle.cs_plan.specs.Plan.{as_plan}
use Rattle.cs_theorem.specs.Accepted.{AreApart, windows_of}
use Rattle.cs_check.proofs.Harmless.{collisions_pass}
use Rattle.cs_check.proofs.Using.{days_range}
use Rattle.cs_check.proofs.collisions.first_fault.Goals as goal

pub returns-then-quiet : goal.returns-then-quiet
returns-then-quiet c =
    let k = c.args.case.now in
    let p = as_plan k.plan.now in
    let a = as_certificate (said k.claim.now) in
    let s = seen c.args.used.now in
    let same : c.as_slice.result.now ≡ windows_of p a s.of = c.as_slice.ensures.value ∙ c.in_ok-windows.ensures.value in
    sym (collisions_pass p c.requires.case.fit.plan a k.days (omega (arith, (days_range k c.requires.case).0)) s (subst (AreApart p) same (c.in_ok-quiet.ensures.apart c.if-quiet.true p c.requires.case.roles)))
