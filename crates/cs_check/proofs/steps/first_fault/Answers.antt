use Rattle.std.proofs.Common.{ℕ, ◌-◌, Some, option_map, sym, ap, ◌∙◌, arith}
use Rattle.cs_theorem.specs.Accepted.{nth}
use Rattle.cs_theorem.specs.Faults.{Fault, BacklogRises, minute_of}
use Rattle.cs_classes.specs.Said.{said}
use Rattle.cs_claims.specs.declared.class.Class.{Class}
use Rattle.cs_classes.specs.Used.{seen}
use Rattle.cs_classes.specs.Claim.{as_certificate, class_at}
use Rattle.cs_classes.specs.Work.{rise_between}
use Rattle.cs_plan.specs.Plan.{as_plan}
use Rattle.cs_check.proofs.Harmless.{steps_pass}
use Rattle.cs_check.proofs.Using.{days_range}
use Rattle.cs_check.proofs.steps.first_fault.Goals as goal

pub returns-in-Some : goal.returns-in-Some
returns-in-Some c =
    let p = as_plan c.args.case.now.plan.now in
    let k = said c.args.case.now.claim.now in
    let s = seen c.args.used.now in
    let n = c.args.case.now.days in
    let f : ℕ × ℕ → Fault = λ f. BacklogRises f.1 (minute_of (as_certificate k) n s f.0 - 1440) in
    let eve = c.class_on-eve.ensures ∙ ap (λ (d : ℕ). class_at k.classes (nth s.of (d - 2))) c.days-days.ensures.value in
    let last = c.class_on-last.ensures ∙ ap (λ (d : ℕ). class_at k.classes (nth s.of (d - 1))) c.days-days.ensures.value in
    let rise = sym c.in-Some.is ∙ (c.in_ok-minute.ensures ∙ (ap (λ (x : Class). rise_between p x c.class_on-last.result.now) eve ∙ ap (λ (x : Class). rise_between p (class_at k.classes (nth s.of (n - 2))) x) last)) in
    ap (λ (at : ℕ). Some (BacklogRises c.in-Some.group at)) (c.civil-at.ensures ∙ ap (λ (m : ℕ). m - 1440) c.minute_on.ensures.value) ∙ ap (option_map f) rise

pub returns-in-None : goal.returns-in-None
returns-in-None c =
    let p = as_plan c.args.case.now.plan.now in
    let k = said c.args.case.now.claim.now in
    let s = seen c.args.used.now in
    let n = c.args.case.now.days in
    let f : ℕ × ℕ → Fault = λ f. BacklogRises f.1 (minute_of (as_certificate k) n s f.0 - 1440) in
    let eve = c.class_on-eve.ensures ∙ ap (λ (d : ℕ). class_at k.classes (nth s.of (d - 2))) c.days-days.ensures.value in
    let last = c.class_on-last.ensures ∙ ap (λ (d : ℕ). class_at k.classes (nth s.of (d - 1))) c.days-days.ensures.value in
    let rise = sym c.in-None.is ∙ (c.in_ok-minute.ensures ∙ (ap (λ (x : Class). rise_between p x c.class_on-last.result.now) eve ∙ ap (λ (x : Class). rise_between p (class_at k.classes (nth s.of (n - 2))) x) last)) in
    ap (option_map f) rise

pub returns-then-holds : goal.returns-then-holds
returns-then-holds c =
    let k = c.args.case.now in
    let steps = c.holds.ensures c.if-holds.true in
    sym (steps_pass (as_plan k.plan.now) c.requires.case.fit.plan (as_certificate (said k.claim.now)) k.days (omega (arith, (days_range k c.requires.case).0)) (seen c.args.used.now) steps)
