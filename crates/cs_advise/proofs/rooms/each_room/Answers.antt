use Rattle.std.proofs.Common.{◌≡◌, ◌≤◌, ℕ, ◌<◌, ◌-◌, List, Bor, length, ap, subst, ◌∙◌, arith}
use Rattle.std.specs.List.{AllZip, range_with_len}
use Rattle.std.specs.Prelude.{All, IfOk}
use Rattle.std.proofs.lemmas.Result.{IfOk-weaker}
use Rattle.rayon.specs.declared.iter.min_len.MinLen.{MinLen}
use Rattle.rayon.specs.declared.range.Iter.{Iter}
use Rattle.cs_plan.specs.Job.{DeclaredJob}
use Rattle.cs_plan.specs.Plan.{Declared}
use Rattle.cs_advise.specs.Room.{IsRoom}
use Rattle.rayon.specs.Numbers.{nat_range}
use Rattle.rayon.proofs.ToStd.{nat_range-All}
use Rattle.cs_advise.proofs.Each.{IsAnswer, numbers_of, of_numbers}
use Rattle.cs_advise.proofs.rooms.each_room.Given.{Over}
use Rattle.cs_advise.proofs.rooms.each_room.Goals as goal

pub collect-requires-clause-ready : goal.collect-requires-clause-ready
collect-requires-clause-ready g c κs within =
    let ends = c.into_par_iter.ensures in
    let jobs = c.jobs.result.now in
    let long = ap (λ (xs : List DeclaredJob). length xs) c.jobs.ensures.value in
    let few : length c.args.plan.now.jobs ≤ 320 = omega (arith, c.jobs.ensures.few) in
    let inside = nat_range-All (λ i. i < length c.args.plan.now.jobs) 0 (length jobs) (λ i low high. omega (arith, high, long)) in
    rw (c.map.ensures.base, c.map.ensures.f, c.with_min_len.ensures.base, ends.0, ends.1) (λ k d lt. (((inside k d lt, few, c.requires), record { shared = c.type_bounds.sync-R.shared }), λ y p. tt))

each : (g : Over) (c : goal.In_ok-collect g) → IfOk c.in_ok-collect.field-0 (λ rooms. (numbers_of rooms.items ≡ range_with_len 0 (length c.args.plan.now.jobs)) × All (IsRoom c.args.plan.now) rooms.items)
each g c =
    let h = c.in_ok-collect.ensures in
    let ends = c.into_par_iter.ensures in
    let n = length c.jobs.result.now in
    let whole : n - 0 ≡ n = omega arith in
    let chain = h.1 in
    let start = ap (λ (it : MinLen (Iter ℕ)). it.base.start) c.map.ensures.base ∙ (ap (λ (it : Iter ℕ). it.start) c.with_min_len.ensures.base ∙ ends.0) in
    let end = ap (λ (it : MinLen (Iter ℕ)). it.base.end) c.map.ensures.base ∙ (ap (λ (it : Iter ℕ). it.end) c.with_min_len.ensures.base ∙ ends.1) in
    let long = ap (λ (xs : List DeclaredJob). length xs) c.jobs.ensures.value in
    let places = chain.1 ∙ (λ i. nat_range (start i) (end i)) ∙ ap (range_with_len 0) (whole ∙ long) in
    let zip = subst (λ (b : Bor Declared). AllZip (IsAnswer (IsRoom b.now)) chain.0 h.0) (ap (λ f. f.2) c.map.ensures.f) chain.2 in
    of_numbers (IsRoom c.args.plan.now) (length c.args.plan.now.jobs) chain.0 h.0 c.in_ok-collect.field-0 places zip h.2

pub returns-clause-jobs : goal.returns-clause-jobs
returns-clause-jobs g c = IfOk-weaker c.in_ok-collect.field-0 _ _ (λ rooms is. is.0) (each g c)

pub returns-clause-each : goal.returns-clause-each
returns-clause-each g c = IfOk-weaker c.in_ok-collect.field-0 _ _ (λ rooms is. is.1) (each g c)
