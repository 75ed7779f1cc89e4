use Rattle.std.proofs.Common.{◌≡◌, ℕ, ◌<◌, ◌-◌, List, Result, Bor, length, ap, subst, ◌∙◌, arith}
use Rattle.std.specs.List.{AllZip, range_with_len}
use Rattle.std.specs.Prelude.{IfOk}
use Rattle.std.specs.declared.alloc.AllocError.{AllocError}
use Rattle.rayon.specs.declared.iter.min_len.MinLen.{MinLen}
use Rattle.rayon.specs.declared.range.Iter.{Iter}
use Rattle.cs_check.specs.declared.due.Basis.{Basis}
use Rattle.cs_check.specs.declared.class_day.ClassDay.{ClassDay}
use Rattle.cs_classes.specs.Said.{said}
use Rattle.cs_claims.specs.declared.class.Class.{Class}
use Rattle.cs_check.specs.ClassDays.{IsClassDay}
use Rattle.rayon.specs.Numbers.{nat_range}
use Rattle.rayon.proofs.ToStd.{nat_range-All}
use Rattle.cs_check.proofs.Numbered.{days_of_numbers}
use Rattle.cs_check.proofs.workers.SeveralThreadsCheckWorkers.class_days.Goals as goal

pub collect-requires-clause-ready : goal.collect-requires-clause-ready
collect-requires-clause-ready g c κs within =
    let ends = c.into_par_iter.ensures in
    let classes = c.classes-classes.result.now in
    let long = ap (λ (xs : List Class). length xs) c.classes-classes.ensures in
    let inside = nat_range-All (λ i. i < length (said c.args.basis.now.claim.now).classes) 0 (length classes) (λ i low high. omega (arith, high, long)) in
    rw (c.map.ensures.base, c.map.ensures.f, c.with_min_len.ensures.base, ends.0, ends.1) (λ k d lt. ((inside k d lt, c.requires.basis), λ y p. tt))

pub returns : goal.returns
returns g c =
    let h = c.in_ok-collect.ensures in
    let ends = c.into_par_iter.ensures in
    let n = length c.classes-classes.result.now in
    let whole : n - 0 ≡ n = omega arith in
    let chain = h.1 in
    let start = ap (λ (it : MinLen (Iter ℕ)). it.base.start) c.map.ensures.base ∙ (ap (λ (it : Iter ℕ). it.start) c.with_min_len.ensures.base ∙ ends.0) in
    let end = ap (λ (it : MinLen (Iter ℕ)). it.base.end) c.map.ensures.base ∙ (ap (λ (it : Iter ℕ). it.end) c.with_min_len.ensures.base ∙ ends.1) in
    let places = chain.1 ∙ (λ i. nat_range (start i) (end i)) ∙ ap (range_with_len 0) whole in
    let long = ap (λ (xs : List Class). length xs) c.classes-classes.ensures in
    let zip = subst (λ (b : Bor Basis). AllZip (λ number (answer : Result ClassDay AllocError). IfOk answer (IsClassDay b.now.plan.now (said b.now.claim.now) number)) chain.0 h.0) (ap (λ f. f.1) c.map.ensures.f) chain.2 in
    days_of_numbers c.args.basis.now.plan.now (said c.args.basis.now.claim.now) n chain.0 h.0 c.in_ok-collect.field-0 long places zip h.2
