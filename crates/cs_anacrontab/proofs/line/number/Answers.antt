use Rattle.std.proofs.Common.{◌≡◌, ◌≢◌, ◌∙◌, ℕ, [], Some, sym, ap, arith}
use Rattle.cs_table.specs.Text.{front, after, is_digit, decimal}
use Rattle.cs_table.proofs.Spans.{some_from}
use Rattle.cs_table.proofs.Results.{empty_is}
use Rattle.cs_anacrontab.proofs.Words.{number_nothing, number_other, number_high, number_in}
use Rattle.cs_anacrontab.proofs.line.number.Goals as goal
use Rattle.cs_anacrontab.proofs.line.number.Goals.{then-is_empty-via-then-is_empty, then-is_empty-via-else-is_empty+then-not-is_empty}

pub returns-then-is_empty-clause-value : goal.returns-then-is_empty-clause-value
returns-then-is_empty-clause-value c =
    elim c.then-is_empty.branch [
      | then-is_empty-via-then-is_empty w ↦ number_nothing c.args.highest c.args.word.now (empty_is c.args.word.now (sym c.is_empty.ensures ∙ w.if-is_empty.true))
      | then-is_empty-via-else-is_empty+then-not-is_empty w ↦
          number_other c.args.highest c.args.word.now (λ e. some_from c.digits-value.result.1.now (sym w.is_empty-else-is_empty.ensures ∙ w.if-not-is_empty.true) (c.digits-value.ensures.rest ∙ e))
    ]

pub returns-then-highest-value-clause-value : goal.returns-then-highest-value-clause-value
returns-then-highest-value-clause-value c =
    let none : after is_digit c.args.word.now ≡ [] = sym c.digits-value.ensures.rest ∙ empty_is c.digits-value.result.1.now (sym c.is_empty-else-is_empty.ensures ∙ c.if-not-is_empty.false) in
    number_high c.args.highest c.args.word.now none (omega (arith, c.if-highest-value.true, c.digits-value.ensures.value))

pub returns-clause-value : goal.returns-clause-value
returns-clause-value c =
    let n : ℕ = decimal (front is_digit c.args.word.now) in
    let none : after is_digit c.args.word.now ≡ [] = sym c.digits-value.ensures.rest ∙ empty_is c.digits-value.result.1.now (sym c.is_empty-else-is_empty.ensures ∙ c.if-not-is_empty.false) in
    let some : c.args.word.now ≢ [] = some_from c.args.word.now (sym c.is_empty.ensures ∙ c.if-is_empty.false) in
    let whole : c.digits-value.result.0 ≡ n = omega (arith, c.requires, c.if-highest-value.false, c.digits-value.ensures.value) in
    ap (λ (k : ℕ). Some k) whole ∙ number_in c.args.highest c.args.word.now some none (omega (arith, whole, c.if-highest-value.false))
