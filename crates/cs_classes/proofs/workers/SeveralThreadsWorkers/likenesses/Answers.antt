use Rattle.std.proofs.Common.{List, Result, Bor, sym, ap, subst, ◌∙◌}
use Rattle.std.specs.List.{AllZip}
use Rattle.std.specs.Prelude.{IfOk}
use Rattle.std.specs.declared.alloc.AllocError.{AllocError}
use Rattle.rayon.proofs.ListFacts.{AllZip-weaken, IfOk-then}
use Rattle.rayon.proofs.ToStd.{slice-AllZip}
use Rattle.rayon.specs.declared.iter.min_len.MinLen.{MinLen}
use Rattle.rayon.specs.declared.slice.Iter.{Iter}
use Rattle.cs_classes.specs.Said.{said}
use Rattle.cs_claims.specs.declared.class.Class.{Class}
use Rattle.cs_plan.specs.Plan.{Declared}
use Rattle.cs_classes.specs.declared.likeness.Likeness.{Likeness}
use Rattle.cs_classes.specs.declared.likeness.Times.{Times}
use Rattle.cs_classes.specs.Likeness.{AreTimes, IsRow}
use Rattle.cs_classes.proofs.Rows.{rows_of_answers}
use Rattle.cs_classes.proofs.workers.SeveralThreadsWorkers.likenesses.Goals as goal

abbrev IsAnswer : List Times → Class → Result (List Likeness) AllocError → Type 0
IsAnswer times class answer = IfOk answer (λ row. (d : Declared) → AreTimes d times → IsRow d class row)

pub returns : goal.returns
returns g c =
    let d = c.args.plan.now in
    let classes = (said c.args.claim.now).classes in
    let times = c.as_slice-times.result.now in
    let h = c.in_ok-collect.ensures in
    let chain = h.1 in
    let shown = chain.1 ∙ ap (λ (it : MinLen (Iter Class)). it.base.slice.now) c.map.ensures.base ∙ (ap (λ (it : Iter Class). it.slice.now) c.with_min_len.ensures.base ∙ (c.par_iter.ensures ∙ c.classes.ensures)) in
    let answered = subst (λ (b : Bor (List Times)). AllZip (λ (class : Bor Class) answer. IsAnswer b.now class.now answer) chain.0 h.0) (ap (λ f. f.1) c.map.ensures.f) chain.2 in
    let zip = slice-AllZip chain.0 classes shown (IsAnswer times) h.0 answered in
    let are = subst (AreTimes d) (sym c.as_slice-times.ensures.value) c.in_ok-times.ensures in
    rows_of_answers d (said c.args.claim.now) h.0 c.in_ok-collect.field-0
    (AllZip-weaken (IsAnswer times) (λ class answer. IfOk answer (IsRow d class)) (λ class answer p. IfOk-then answer _ _ p (λ row each. each d are)) classes h.0 zip)
    h.2
