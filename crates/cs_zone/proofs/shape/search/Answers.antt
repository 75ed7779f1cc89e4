use Rattle.std.proofs.Common.{◌≡◌, ◌||◌, ◌∷◌, ◌++◌, [], ℕ, List, nat_eq, nat_lt, sym, ap, ◌∙◌, append_assoc, arith}
use Rattle.std.proofs.lemmas.Bool.{le-ltb, lt-ltb}
use Rattle.cs_schedule.specs.Minutes.{minutes_where}
use Rattle.cs_schedule.specs.Numbers.{has}
use Rattle.cs_zone.specs.Starts.{is_due}
use Rattle.cs_zone.proofs.Collecting.{below_day, found, has_where, is_found, known, passed}
use Rattle.cs_zone.proofs.shape.search.Goals as goal
use Rattle.cs_zone.proofs.shape.search.Goals.{else-not-has-via-then-not-has+else-starts-gt0, else-not-has-via-else-not-has}

pub starts-requires : goal.starts-requires
starts-requires c = below_day c.requires.0 c.loop-minute.yielded c.next.new.self c.in-Some.minute (ap (λ (xs : List ℕ). c.loop-minute.yielded ++ xs) (sym c.in-Some.ensures.steps) ∙ c.loop-minute.invariant.0 ∙ c.requires.1)

pub insert-requires : goal.insert-requires
insert-requires c = below_day c.requires.0 c.loop-minute.yielded c.next.new.self c.in-Some.minute (ap (λ (xs : List ℕ). c.loop-minute.yielded ++ xs) (sym c.in-Some.ensures.steps) ∙ c.loop-minute.invariant.0 ∙ c.requires.1)

pub loop-minute-preserved-then-starts-gt0 : goal.loop-minute-preserved-then-starts-gt0
loop-minute-preserved-then-starts-gt0 c =
    let gone = c.loop-minute.yielded in
    let m = c.in-Some.minute in (
      append_assoc gone (m ∷ []) c.next.new.self ∙ ap (λ (xs : List ℕ). gone ++ xs) (sym c.in-Some.ensures.steps) ∙ c.loop-minute.invariant.0,
      λ test is.
          c.insert.ensures
          ∙ ap (λ (xs : List ℕ). minutes_where (λ k. nat_eq k m || has xs k)) (c.loop-minute.invariant.1 test is)
          ∙ found test (is_due c.args.zone c.args.schedule.now c.args.kind) gone m (ap (λ (n : ℕ). nat_lt 0 n) (sym c.starts.ensures.value) ∙ lt-ltb 0 c.starts.result (omega arith)),
    )

pub loop-minute-preserved : goal.loop-minute-preserved
loop-minute-preserved c =
    let gone = c.loop-minute.yielded in
    let m = c.in-Some.minute in
    let due = is_due c.args.zone c.args.schedule.now c.args.kind in
    let listed : gone ++ (m ∷ c.next.new.self) ≡ c.args.near.now = ap (λ (xs : List ℕ). gone ++ xs) (sym c.in-Some.ensures.steps) ∙ c.loop-minute.invariant.0 in (
      append_assoc gone (m ∷ []) c.next.new.self ∙ listed,
      λ test is.
          c.loop-minute.invariant.1 test is
          ∙ (elim c.else-not-has.branch [
            | else-not-has-via-then-not-has+else-starts-gt0 w ↦ passed test due gone m (ap (λ (n : ℕ). nat_lt 0 n) (sym w.starts.ensures.value) ∙ le-ltb 0 w.starts.result (omega arith))
            | else-not-has-via-else-not-has w ↦
                known test due gone m (sym (has_where (is_found test due gone) m (below_day c.requires.0 gone c.next.new.self m (listed ∙ c.requires.1)))
                ∙ ap (λ (xs : List ℕ). has xs m) (sym (c.loop-minute.invariant.1 test is))
                ∙ sym c.has.ensures
                ∙ w.if-not-has.false)
          ]),
    )
