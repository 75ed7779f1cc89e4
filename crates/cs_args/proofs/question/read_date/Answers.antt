use Rattle.std.proofs.Common.{◌≡◌, ◌∙◌, ◌≤◌, ◌<◌, inr, refl, arith, rules}
use Rattle.cs_civil.specs.Text.{IsDateText}
use Rattle.cs_args.proofs.question.read_date.Goals as goal

pub returns-then-number-lt-FIRST_DAY-clause-err : goal.returns-then-number-lt-FIRST_DAY-clause-err
returns-then-number-lt-FIRST_DAY-clause-err c =
    let date : IsDateText c.args.text.now = search rules in
    inr (
      date,
      (λ n h.
          let same : n ≡ c.in_ok-day.day = c.in_ok-day.ensures.only n (c.as_bytes.ensures.value ∙ h.2) in
          let early : c.number.result < 3 = c.if-number-lt-FIRST_DAY.true in
          let is : c.number.result ≡ c.in_ok-day.day = c.number.ensures.value in
          let late : 3 ≤ n = h.0 in
          absurd (omega arith)),
      refl,
    )
