use Rattle.std.proofs.Common.{All, List, ◌≤◌, subst, ◌∙◌, sym, ◌&&◌, arith, ap, ℕ, Bool}
use Rattle.std.proofs.lemmas.Bool.{lt-ltb}
use Rattle.cs_schedule.specs.Numbers.{has_bit, is_every}
use Rattle.cs_schedule.proofs.Ranges.{numbers_same, one_more_in, one_more_out}
use Rattle.cs_schedule.proofs.Within.{every_within}
use Rattle.cs_schedule.proofs.numbers.Numbers.every.Goals as goal
use Rattle.cs_schedule.proofs.numbers.Numbers.every.Goals.{then-is_every, else-is_every}

pub returns-clause-value : goal.returns-clause-value
returns-clause-value c =
    let test : ℕ → Bool = is_every c.args.first c.args.last c.args.step in
    numbers_same (has_bit c.loop-number.word) test (λ n below. c.loop-number.invariant n below ∙ ap (λ b. b && test n) (lt-ltb n c.loop-number.number (omega arith)))

pub loop-number-preserved : goal.loop-number-preserved
loop-number-preserved c =
    let test : ℕ → Bool = is_every c.args.first c.args.last c.args.step in
    let old : ℕ → Bool = has_bit c.loop-number.word in
    elim c.if-is_every.branch [
      | then-is_every w ↦ rw w.word-is (one_more_in test old (has_bit w.put-word.result) c.loop-number.number (sym c.is_every.ensures ∙ w.if-is_every.true) c.loop-number.invariant w.put-word.ensures)
      | else-is_every w ↦ rw w.word-is (one_more_out test old c.loop-number.number (sym c.is_every.ensures ∙ w.if-is_every.false) c.loop-number.invariant)
    ]

pub returns-clause-within : goal.returns-clause-within
returns-clause-within c =
    let range : List ℕ → Type 0 = All (λ n. (c.args.first ≤ n) × (n ≤ c.args.last)) in
    subst range (sym (returns-clause-value c)) (every_within c.args.first c.args.last c.args.step)
