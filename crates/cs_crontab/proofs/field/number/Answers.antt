use Rattle.std.proofs.Common.{subst, sym, Result, ◌≡◌, ◌∙◌, ap, arith, ℕ, List, Ok}
use Rattle.cs_table.specs.Text.{front, is_digit, decimal}
use Rattle.cs_crontab.specs.declared.fault.LineFault.{LineFault}
use Rattle.cs_table.specs.Wrong.{Gives}
use Rattle.cs_crontab.proofs.Parts.{number_none, number_low, number_high, number_in, last_below, first_below}
use Rattle.cs_crontab.proofs.field.number.Goals as goal

pub returns-then-rest-text : goal.returns-then-rest-text
returns-then-rest-text c =
    subst (λ (read : Result (ℕ × List ℕ) LineFault). Gives (λ x. (x.0, x.1.now)) c.named.result read)
    (sym (number_none c.args.part c.args.text.now (omega (arith, c.digits-value.ensures.parts)))) c.named.ensures

pub returns-then-value-first : goal.returns-then-value-first
returns-then-value-first c =
    let below = last_below c.args.part in
    let ordered = first_below c.args.part in
    number_low c.args.part c.args.text.now (omega (arith, c.digits-value.ensures.parts)) (omega (arith, c.digits-value.ensures.value, c.from-first.ensures, c.first.ensures, below, ordered))

pub returns-then-last-value : goal.returns-then-last-value
returns-then-last-value c =
    let below = last_below c.args.part in
    number_high c.args.part c.args.text.now (omega (arith, c.digits-value.ensures.parts)) (omega (arith, c.digits-value.ensures.value, c.from-last.ensures, c.last.ensures, below))

pub returns : goal.returns
returns c =
    let n : ℕ = decimal (front is_digit c.args.text.now) in
    let below = last_below c.args.part in
    let whole : c.digits-value.result.0 ≡ n = omega (arith, c.digits-value.ensures.value, c.from-last.ensures, c.last.ensures, below) in
    number_in c.args.part c.args.text.now (omega (arith, c.digits-value.ensures.parts)) (omega (arith, c.from-first.ensures, c.first.ensures)) (omega (arith, c.from-last.ensures, c.last.ensures))
    ∙ ap (λ (x : ℕ × List ℕ). Ok x) (cc)
