use Rattle.std.proofs.Common.{◌≡◌, ◌∙◌, ◌+◌, ◌-◌, ◌*◌, ℕ, List, min, ap, sym, get_or, arith}
use Rattle.cs_retrace.proofs.Decimals.{one_digit, all_digits}
use Rattle.cs_retrace.proofs.words.decimal.Goals as goal

pub loop-byte-preserved : goal.loop-byte-preserved
loop-byte-preserved c =
    let text : List ℕ = c.args.text.now in
    let i : ℕ = c.loop-byte.byte-index in
    let v : ℕ = c.loop-byte.value in
    let w : ℕ = c.min-value.result in
    let cut : min 1_000_000_000_000 w ≡ min 1_000_000_000_000 (10 * v + (get_or text i 0 - 48)) = omega (arith, c.saturating_mul.ensures, c.saturating_sub.ensures, c.from.ensures, c.saturating_add-value.ensures, c.min-value.ensures) in
    record {
      capped = omega (arith, c.min-value.ensures);
      value = one_digit text i v w (omega arith) cut ∙ c.loop-byte.invariant.value;
    }

pub returns : goal.returns
returns c =
    let v : ℕ = c.loop-byte.value in
    let capped = c.loop-byte.invariant.capped in
    let whole : v ≡ min 1_000_000_000_000 v = omega arith in
    whole ∙ ap (min 1_000_000_000_000) (sym (all_digits c.args.text.now c.loop-byte.byte-index v (omega arith))) ∙ c.loop-byte.invariant.value
