use Rattle.std.proofs.Common.{ℕ, ◌+◌, ◌∙◌, ap, sym, arith, if◌then◌else◌}
use Rattle.cs_claims.specs.Certificate.{is_due_in}
use Rattle.cs_plan.specs.Plan.{as_plan}
use Rattle.cs_history.specs.Plan.{locks}
use Rattle.cs_classes.proofs.Lists.{total_passing}
use Rattle.cs_classes.proofs.steps.arrivals_in.Goals as goal

pub loop-number-preserved : goal.loop-number-preserved
loop-number-preserved c =
    let p = as_plan c.args.plan.now in
    let g = c.args.group in
    let i = c.loop-number.number in (
      c.add_locker.ensures.long,
      λ m lt. c.add_locker.ensures.each m lt
          ∙ (ap (λ (k : ℕ). k + (if is_due_in c.args.class.now i m then (if locks p g i then p.limit i else 0) else 0)) (c.loop-number.invariant.1 m lt)
          ∙ sym (total_passing (λ j. if locks p g j then p.limit j else 0) (λ j. is_due_in c.args.class.now j m) i)),
      λ m lt. omega (arith, c.add_locker.ensures.small m lt),
    )
