use Rattle.std.proofs.Common.{◌≡◌, ℕ, sym, ap, ◌∙◌, refl, arith, slice_index, List}
use Rattle.std.proofs.lemmas.Bool.{both_ways}
use Rattle.cs_claims.specs.Certificate.{bound_in}
use Rattle.cs_classes.specs.Work.{arrivals_in}
use Rattle.cs_plan.specs.Plan.{as_plan}
use Rattle.cs_wait.specs.Bounds.{at}
use Rattle.cs_wait.specs.declared.backlog.Piece.{Piece}
use Rattle.cs_classes.proofs.Midnight.{within_same}
use Rattle.cs_classes.proofs.group_day.group_day.Goals as goal

pub returns-then-not-has_waiter : goal.returns-then-not-has_waiter
returns-then-not-has_waiter c = record {
  waited = λ q. absurd (both_ways c.has_waiter.result c.if-not-has_waiter.true (c.has_waiter.ensures ∙ q));
  free = λ q. (refl, refl);
}

pub returns : goal.returns
returns c =
    let p = as_plan c.args.plan.now in
    let bound = bound_in c.args.class.now c.args.group in
    let arrive = arrivals_in p c.args.class.now c.args.group in
    let same : (t : ℕ) → at c.backlog_of-backlog.result.now t ≡ bound t = λ t. ap (λ (ps : List Piece). at ps t) c.backlog_of-backlog.ensures in
    record {
      waited = λ q. record {
        within = (
          λ t. within_same (at c.backlog_of-backlog.result.now) bound (slice_index c.arrivals_in-arrivals.result) arrive same c.arrivals_in-arrivals.ensures.each (c.steps_within.ensures.0 t),
          λ h. c.steps_within.ensures.1 (within_same bound (at c.backlog_of-backlog.result.now) arrive (slice_index c.arrivals_in-arrivals.result) (λ t. sym (same t)) (λ t lt. sym (c.arrivals_in-arrivals.ensures.each t lt)) h),
        );
        last = omega (arith, same 1439, c.arrivals_in-arrivals.ensures.each 1439 (omega arith));
        start = c.at-3.ensures ∙ same 0;
      };
      free = λ q. absurd (both_ways c.has_waiter.result (c.has_waiter.ensures ∙ q) c.if-not-has_waiter.false);
    }
