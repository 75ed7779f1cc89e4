use Rattle.std.proofs.Common.{ℕ, ◌≡◌, ◌+◌, List, [], ◌∷◌, length, Some, sym, ap, subst, ◌∙◌}
use Rattle.std.specs.Prelude.{slice_get}
use Rattle.std.proofs.lemmas.List.{length-append}
use Rattle.cs_classes.specs.Said.{said}
use Rattle.cs_check.specs.ClassDays.{IsClassDay}
use Rattle.cs_check.specs.declared.class_day.ClassDay.{ClassDay}
use Rattle.cs_check.proofs.Numbered.{each_push}
use Rattle.cs_check.proofs.workers.OneThreadCheckWorkers.class_days.Goals as goal

pub loop-number-preserved : goal.loop-number-preserved
loop-number-preserved c =
    let d = c.args.basis.now.plan.now in
    let k = said c.args.basis.now.claim.now in
    let day = c.in_ok-class_day.field-0 in
    let here = subst (λ (n : ℕ). IsClassDay d k n day) (sym c.loop-number.invariant.0) c.in_ok-class_day.ensures in (
      ap length c.in_ok-push.ensures.items ∙ length-append c.loop-number.days.items (day ∷ []) ∙ ap (λ (n : ℕ). n + 1) c.loop-number.invariant.0,
      subst (λ (items : List ClassDay). (n : ℕ) (one : ClassDay) → slice_get items n ≡ Some one → IsClassDay d k n one) (sym c.in_ok-push.ensures.items)
          (each_push (IsClassDay d k) c.loop-number.days.items day c.loop-number.invariant.1 here),
    )
