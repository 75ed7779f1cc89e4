use Rattle.std.proofs.Common.{◌≡◌, ◌∙◌, ◌+◌, ◌-◌, ◌*◌, ◌≤◌, ℕ, List, true, false, ap, sym, length, drop, min, arith, [], get_or}
use Rattle.std.proofs.lemmas.List.{take_rest}
use Rattle.cs_table.specs.Text.{is_digit, front, after, decimal_from}
use Rattle.cs_table.proofs.Fronts.{front_more, after_more, front_stop, after_stop, front_end, after_end, decimal_next, decimal_end, decimal_cut, length-parts}
use Rattle.cs_table.proofs.text.digits.Goals as goal
use Rattle.cs_table.proofs.text.digits.Goals.{then-loop-len-test+else-is_digit, else-loop-len-test}

pub loop-len-preserved : goal.loop-len-preserved
loop-len-preserved c =
    let text : List ℕ = c.args.text.now in
    let i : ℕ = c.loop-len.len in
    let d : ℕ = get_or text i 0 in
    let v : ℕ = c.loop-len.value in
    let others : List ℕ = front is_digit (drop (i + 1) text) in
    let passes : is_digit d ≡ true = sym c.is_digit.ensures ∙ c.if-is_digit.true in
    let one = ap (decimal_from v) (front_more is_digit text i c.loop-len-test.true passes) ∙ decimal_next v d others in
    let cut : min 1_000_000 c.min-value.result ≡ min 1_000_000 (10 * v + (d - 48)) = omega (arith, c.min-value.ensures, c.from.ensures) in
    record {
      within = omega arith;
      capped = omega arith;
      value = decimal_cut others c.min-value.result (10 * v + (d - 48)) cut ∙ ap (min 1_000_000) (sym one) ∙ c.loop-len.invariant.value;
      after = sym (after_more is_digit text i c.loop-len-test.true passes) ∙ c.loop-len.invariant.after;
    }

stops : (c : goal.After-result-1) → (front is_digit (drop c.loop-len.len c.args.text.now) ≡ []) × (after is_digit (drop c.loop-len.len c.args.text.now) ≡ drop c.loop-len.len c.args.text.now)
stops c =
    let text : List ℕ = c.args.text.now in
    let i : ℕ = c.loop-len.len in
    elim c.loop-len-test.branch [
      | then-loop-len-test+else-is_digit w ↦
          let fails : is_digit (get_or text i 0) ≡ false = sym w.is_digit.ensures ∙ w.if-is_digit.false in
          (front_stop is_digit text i w.loop-len-test.true fails, after_stop is_digit text i w.loop-len-test.true fails)
      | else-loop-len-test w ↦ (front_end is_digit text i w.loop-len-test.false, after_end is_digit text i w.loop-len-test.false)
    ]

pub returns-clause-value : goal.returns-clause-value
returns-clause-value c =
    let v : ℕ = c.loop-len.value in
    let capped : v ≤ 1_000_000 = c.loop-len.invariant.capped in
    let whole : v ≡ min 1_000_000 v = omega arith in
    whole ∙ ap (min 1_000_000) (sym (decimal_end v) ∙ ap (decimal_from v) (sym (stops c).0)) ∙ c.loop-len.invariant.value

pub returns-clause-rest : goal.returns-clause-rest
returns-clause-rest c = take_rest c.args.text.now c.loop-len.len ∙ sym (stops c).1 ∙ c.loop-len.invariant.after

pub returns-clause-parts : goal.returns-clause-parts
returns-clause-parts c =
    let rest = take_rest c.args.text.now c.loop-len.len ∙ sym (stops c).1 ∙ c.loop-len.invariant.after in
    omega (arith, ap (length {A = ℕ}) rest, length-parts is_digit c.args.text.now)
