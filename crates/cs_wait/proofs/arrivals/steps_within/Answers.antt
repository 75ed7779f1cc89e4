use Rattle.std.proofs.Common.{◌≡◌, ℕ, ◌+◌, ◌-◌, ◌<◌, ◌≤◌, List, drop, fold, get_or, slice_index, refl, sym, ap, ◌∙◌, subst, arith, inl, inr, false}
use Rattle.std.proofs.lemmas.Bool.{both_ways, cases_lt}
use Rattle.cs_wait.specs.declared.backlog.Piece.{Piece}
use Rattle.cs_wait.specs.Bounds.{IsBacklogFrom, at, decided}
use Rattle.cs_wait.proofs.Pieces.{later_decide_nothing, sooner}
use Rattle.cs_wait.proofs.arrivals.steps_within.Goals as goal

-- from a minute on, whatever the pieces passed, a bound and the pieces left decide
abbrev Decides : List Piece → ℕ → ℕ → ℕ → Type 0
Decides ps minute bound place = (t : ℕ) → minute ≤ t → fold (decided t) (bound - (t - minute)) (drop place ps) ≡ at ps t

in_fall : (ps : List Piece) (minute bound place last : ℕ) → Decides ps minute bound place → IsBacklogFrom (last + 1) (drop place ps) → (t : ℕ) → minute ≤ t → t ≤ last → at ps t ≡ bound - (t - minute)
in_fall ps minute bound place last decides left t from to =
    sym (decides t from) ∙ later_decide_nothing t (last + 1) (bound - (t - minute)) (drop place ps) (omega (arith, to)) left

-- what is known behind a step: the bound before it, the bound after it, and that the latter decides
pub record IsStep (ps : List Piece) (step before after place : ℕ) : Type 0 where
  pub from : at ps step ≡ before
  pub to : at ps (step + 1) ≡ after
  pub on : Decides ps (step + 1) after place

one_step : (ps : List Piece) (minute step last bound place before fallen after next : ℕ) → minute ≤ step → step ≤ last → Decides ps minute bound place → IsBacklogFrom (last + 1) (drop place ps)
    → before ≡ bound - (step - minute) → fallen ≡ before - 1 → IsBacklogFrom (step + 1 + 1) (drop next ps)
    → ((t : ℕ) → step + 1 ≤ t → fold (decided t) (after - (t - (step + 1))) (drop next ps) ≡ fold (decided t) (fallen - (t - (step + 1))) (drop place ps)) → IsStep ps step before after next
one_step ps minute step last bound place before fallen after next le in_time decides left is less behind turned =
    let on : Decides ps (step + 1) after next
    = λ t from.
    let same : fallen - (t - (step + 1)) ≡ bound - (t - minute) = omega (arith, is, less, le, from) in
    turned t from ∙ (ap (λ (b : ℕ). fold (decided t) b (drop place ps)) same ∙ decides t (omega (arith, le, from)))
    in
    record {
      from = omega (arith, in_fall ps minute bound place last decides left step le in_time, is);
      to = omega (arith, in_fall ps (step + 1) after next (step + 1) on behind (step + 1) (omega arith) (omega arith));
      on = on;
    }

steps_so_far : (f g : ℕ → ℕ) (minute step bound : ℕ) → minute ≤ step → ((t : ℕ) → t < minute → f t + g t - 1 ≤ f (t + 1)) → ((t : ℕ) → minute ≤ t → t ≤ step → f t ≡ bound - (t - minute))
    → ((t : ℕ) → minute ≤ t → t < step → g t ≡ 0) → f step + g step - 1 ≤ f (step + 1) → (t : ℕ) → t < step + 1 → f t + g t - 1 ≤ f (t + 1)
steps_so_far f g minute step bound le before falls quiet here t lt =
    elim (cases_lt t minute) [
      | inl sooner ↦ before t sooner
      | inr from ↦ elim (cases_lt t step) [
        | inl within ↦ omega (arith, falls t from (omega (arith, within)), falls (t + 1) (omega (arith, from)) (omega (arith, within)), quiet t from within)
        | inr past ↦ let same : t ≡ step = omega (arith, lt, past) in subst (λ (k : ℕ). f k + g k - 1 ≤ f (k + 1)) (sym same) here
      ]
    ]

pub turn-walk-requires-in-loop-minute : goal.turn-walk-requires-in-loop-minute
turn-walk-requires-in-loop-minute c =
    sooner (c.next_arrival-step.result + 1) (c.last_fall-last.result + 1) (drop c.loop-minute.walk.place c.pieces-list.result.now) (omega (arith, c.next_arrival-step.ensures.within.1)) c.last_fall-last.ensures.left

arrives_here : (sums now : List ℕ) (step place : ℕ) → sums ≡ now → place ≡ step → slice_index now step ≡ get_or sums place 0
arrives_here sums now step place view e = ap (λ (k : ℕ). slice_index now k) (sym e) ∙ ap (λ (s : List ℕ). slice_index s place) (sym view)

pub loop-minute-preserved : goal.loop-minute-preserved
loop-minute-preserved c =
    let ps = c.pieces-list.result.now in
    let minute = c.loop-minute.minute in
    let step = c.next_arrival-step.result in
    let bound = c.loop-minute.walk.bound in
    let place = c.loop-minute.walk.place in
    let within = c.next_arrival-step.ensures.within in
    let fall = c.last_fall-last in
    let turned = c.turn-walk-in-loop-minute in
    let s = one_step ps minute step fall.result bound place c.saturating_sub-bound.result c.saturating_sub.result turned.result.bound turned.result.place within.0 within.1 c.loop-minute.invariant.2 fall.ensures.left
    (c.saturating_sub-bound.ensures ∙ ap (λ (k : ℕ). bound - k) c.from.ensures) c.saturating_sub.ensures turned.ensures.left turned.ensures.same in
    let here = arrives_here c.arrivals.inside.sums c.args.arrivals.now step c.from-in-loop-minute.result c.arrivals.view_is c.from-in-loop-minute.ensures in (
      omega (arith, within.1, fall.ensures.within.1),
      turned.ensures.left,
      s.on,
      steps_so_far (at ps) (slice_index c.args.arrivals.now) minute step bound within.0 c.loop-minute.invariant.3 (λ t from to. in_fall ps minute bound place fall.result c.loop-minute.invariant.2 fall.ensures.left t from (omega (arith, to, within.1)))
          (λ t from to. ap (λ (sums : List ℕ). slice_index sums t) (sym c.arrivals.view_is) ∙ c.next_arrival-step.ensures.quiet t from to)
          (omega (arith, c.follows.ensures.0 c.if-not-follows.false, s.from, s.to, here)),
    )

pub returns-then-not-follows : goal.returns-then-not-follows
returns-then-not-follows c =
    let ps = c.pieces-list.result.now in
    let minute = c.loop-minute.minute in
    let step = c.next_arrival-step.result in
    let bound = c.loop-minute.walk.bound in
    let place = c.loop-minute.walk.place in
    let within = c.next_arrival-step.ensures.within in
    let fall = c.last_fall-last in
    let turned = c.turn-walk-in-loop-minute in
    let s = one_step ps minute step fall.result bound place c.saturating_sub-bound.result c.saturating_sub.result turned.result.bound turned.result.place within.0 within.1 c.loop-minute.invariant.2 fall.ensures.left
    (c.saturating_sub-bound.ensures ∙ ap (λ (k : ℕ). bound - k) c.from.ensures) c.saturating_sub.ensures turned.ensures.left turned.ensures.same in
    let here = arrives_here c.arrivals.inside.sums c.args.arrivals.now step c.from-in-loop-minute.result c.arrivals.view_is c.from-in-loop-minute.ensures in
    let same : (t : ℕ) → at c.args.bounds.now t ≡ at ps t = λ t. ap (λ (ps : List Piece). at ps t) (sym c.pieces-list.ensures.value) in (
      λ f. absurd (both_ways false refl f),
      λ holds. absurd (both_ways c.follows.result c.if-not-follows.true (c.follows.ensures.1 (omega (arith, holds step (omega (arith, within.1, fall.ensures.within.1)), same step, same (step + 1), s.from, s.to, here)))),
    )
