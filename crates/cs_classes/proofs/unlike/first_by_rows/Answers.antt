use Rattle.std.proofs.Common.{◌∙◌, sym, ap}
use Rattle.cs_theorem.specs.Faults.{first_of}
use Rattle.cs_classes.specs.Said.{said}
use Rattle.cs_classes.proofs.Alike.{unlike, unlike_here, unlike_later}
use Rattle.cs_classes.proofs.unlike.first_by_rows.Goals as goal

pub returns-then-not-is_alike : goal.returns-then-not-is_alike
returns-then-not-is_alike c =
    let d = c.args.plan.now in
    let a = said c.args.claim.now in
    sym (sym c.loop-kind.invariant ∙ ap (first_of (unlike d a)) c.in-Some.ensures.steps ∙ unlike_here d a c.in-Some.kind c.next.new.self (sym c.is_alike.ensures ∙ c.if-not-is_alike.true))

pub loop-kind-preserved : goal.loop-kind-preserved
loop-kind-preserved c =
    let d = c.args.plan.now in
    let a = said c.args.claim.now in
    sym (unlike_later d a c.in-Some.kind c.next.new.self (sym c.is_alike.ensures ∙ c.if-not-is_alike.false)) ∙ ap (first_of (unlike d a)) (sym c.in-Some.ensures.steps) ∙ c.loop-kind.invariant
