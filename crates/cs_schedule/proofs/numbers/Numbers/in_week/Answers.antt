use Rattle.std.proofs.Common.{All, List, ◌≤◌, subst, ◌∙◌, sym, ◌&&◌, arith, ap, ℕ, Bool}
use Rattle.std.proofs.lemmas.Bool.{lt-ltb}
use Rattle.cs_schedule.specs.Numbers.{has_bit, is_in_week}
use Rattle.cs_schedule.proofs.Ranges.{numbers_same, one_more_in, one_more_out}
use Rattle.cs_schedule.proofs.Within.{week_within}
use Rattle.cs_schedule.proofs.numbers.Numbers.in_week.Goals as goal
use Rattle.cs_schedule.proofs.numbers.Numbers.in_week.Goals.{then-is_in_week, else-is_in_week}

pub returns-clause-value : goal.returns-clause-value
returns-clause-value c =
    let test : ℕ → Bool = is_in_week c.args.self.now in
    numbers_same (has_bit c.loop-number.word) test (λ n below. c.loop-number.invariant n below ∙ ap (λ b. b && test n) (lt-ltb n c.loop-number.number (omega arith)))

pub loop-number-preserved : goal.loop-number-preserved
loop-number-preserved c =
    let test : ℕ → Bool = is_in_week c.args.self.now in
    let old : ℕ → Bool = has_bit c.loop-number.word in
    elim c.if-is_in_week.branch [
      | then-is_in_week w ↦ rw w.word-is (one_more_in test old (has_bit w.put-word.result) c.loop-number.number (sym c.is_in_week.ensures ∙ w.if-is_in_week.true) c.loop-number.invariant w.put-word.ensures)
      | else-is_in_week w ↦ rw w.word-is (one_more_out test old c.loop-number.number (sym c.is_in_week.ensures ∙ w.if-is_in_week.false) c.loop-number.invariant)
    ]

pub returns-clause-within : goal.returns-clause-within
returns-clause-within c =
    let range : List ℕ → Type 0 = All (λ n. n ≤ 6) in
    subst range (sym (returns-clause-value c)) (week_within c.args.self.now)
