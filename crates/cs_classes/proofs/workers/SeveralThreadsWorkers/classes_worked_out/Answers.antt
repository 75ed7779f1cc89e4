use Rattle.std.proofs.Common.{◌≡◌, ℕ, ◌<◌, ◌-◌, List, Global, Result, Bor, length, map, ap, sym, subst, ◌∙◌, arith}
use Rattle.std.specs.List.{AllZip, range_with_len}
use Rattle.std.specs.Prelude.{IfOk}
use Rattle.std.specs.declared.alloc.AllocError.{AllocError}
use Rattle.rayon.specs.declared.iter.min_len.MinLen.{MinLen}
use Rattle.rayon.specs.declared.range.Iter.{Iter}
use Rattle.cs_claims.specs.Certificate.{content}
use Rattle.cs_claims.specs.declared.certificate.Certificate.{Certificate}
use Rattle.cs_claims.specs.declared.class.Class.{Class}
use Rattle.cs_plan.specs.declared.plan.Plan.{Plan}
use Rattle.cs_civil.specs.Order.{all_kinds}
use Rattle.cs_classes.specs.Likeness.{ArePlain}
use Rattle.cs_classes.specs.StandsFor.{worked_of}
use Rattle.cs_classes.specs.WorkedOut.{classed_kind}
use Rattle.cs_classes.specs.declared.working_out.ClassedKind.{ClassedKind}
use Rattle.rayon.specs.Numbers.{nat_range}
use Rattle.rayon.proofs.ToStd.{nat_range-All}
use Rattle.cs_classes.proofs.WorkedClasses.{all_worked}
use Rattle.cs_classes.proofs.workers.SeveralThreadsWorkers.classes_worked_out.Goals as goal

pub collect-requires-clause-ready : goal.collect-requires-clause-ready
collect-requires-clause-ready g c κs within =
    let ends = c.into_par_iter.ensures in
    let k = content c.args.certificate.now in
    let classes = c.classes.result.now in
    let long = ap (λ (xs : List Class). length xs) c.classes.ensures.value in
    let known = subst (λ (kinds : List ClassedKind). kinds ≡ map (classed_kind k) all_kinds) (sym c.as_slice-kinds.ensures.value) c.in_ok-kinds.ensures in
    let plain = subst (ArePlain c.args.plan.now) (sym c.as_slice-plain.ensures.value) c.in_ok-plain.ensures in
    let inside = nat_range-All (λ i. i < length k.classes) 0 (length classes) (λ i low high. omega (arith, high, long)) in
    rw (c.map.ensures.base, c.map.ensures.f, c.with_min_len.ensures.base, ends.0, ends.1) (λ n d lt. ((inside n d lt, plain, known), λ y p. tt))

pub returns : goal.returns
returns g c =
    let d = c.args.plan.now in
    let k = content c.args.certificate.now in
    let h = c.in_ok-collect.ensures in
    let ends = c.into_par_iter.ensures in
    let n = length c.classes.result.now in
    let whole : n - 0 ≡ n = omega arith in
    let chain = h.1 in
    let start = ap (λ (it : MinLen (Iter ℕ)). it.base.start) c.map.ensures.base ∙ (ap (λ (it : Iter ℕ). it.start) c.with_min_len.ensures.base ∙ ends.0) in
    let end = ap (λ (it : MinLen (Iter ℕ)). it.base.end) c.map.ensures.base ∙ (ap (λ (it : Iter ℕ). it.end) c.with_min_len.ensures.base ∙ ends.1) in
    let long = ap (λ (xs : List Class). length xs) c.classes.ensures.value in
    let places = chain.1 ∙ (λ i. nat_range (start i) (end i)) ∙ ap (range_with_len 0) (whole ∙ long) in
    let zip = subst (λ (f : Bor Global × Bor Plan × Bor Certificate × Bor (List ClassedKind) × Bor (List (List ℕ))). AllZip (λ number (answer : Result Class AllocError). IfOk answer (λ worked. worked ≡ worked_of f.1.now (content f.2.now) number)) chain.0 h.0) c.map.ensures.f chain.2 in
    all_worked (worked_of d k) (length k.classes) chain.0 h.0 c.in_ok-collect.field-0 places zip h.2
