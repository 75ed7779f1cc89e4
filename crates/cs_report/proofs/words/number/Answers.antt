use Rattle.std.proofs.Common.{◌≡◌, ◌≤◌, ◌∙◌, ℕ, ap, sym, min, arith}
use Rattle.cs_report.proofs.Digits.{one_more, no_more}
use Rattle.cs_report.proofs.words.number.Goals as goal

pub loop-digit-preserved : goal.loop-digit-preserved
loop-digit-preserved c =
    record {
      capped = omega (arith, c.min-value.ensures);
      value =
          one_more c.args.digits.now c.loop-digit.digit-index c.loop-digit.value c.min-value.result c.loop-digit-test.true (omega (arith, c.min-value.ensures, c.from.ensures, c.saturating_sub.ensures))
          ∙ c.loop-digit.invariant.value;
    }

pub returns : goal.returns
returns c =
    let v : ℕ = c.loop-digit.value in
    let capped : v ≤ 4_294_967_296 = c.loop-digit.invariant.capped in
    let whole : v ≡ min 4_294_967_296 v = omega (arith, capped) in
    whole ∙ ap (min 4_294_967_296) (sym (no_more c.args.digits.now c.loop-digit.digit-index v c.loop-digit-test.false)) ∙ c.loop-digit.invariant.value
