use Rattle.std.proofs.Common.{◌+◌, ◌*◌, inl, inr, arith}
use Rattle.std.proofs.lemmas.Bool.{cases_lt, eq-eqb, le-leb, leb-true}
use Rattle.cs_schedule.proofs.Alike.{alike_before, alike_past}
use Rattle.cs_schedule.proofs.minute_set.is_alike.Goals as goal

pub returns-then-unlike-eq64 : goal.returns-then-unlike-eq64
returns-then-unlike-eq64 c =
    let past = c.if-unlike-eq64.true in (
      λ whole m day there. alike_before c.args.words.now c.args.others.now c.args.place c.lowest_bit-unlike.result c.lowest_bit-unlike.ensures.out m there (omega arith),
      λ alike. eq-eqb _ _ past,
    )

pub returns-else-unlike-eq64 : goal.returns-else-unlike-eq64
returns-else-unlike-eq64 c =
    let words = c.args.words.now in
    let others = c.args.others.now in
    let place = c.args.place in
    let unlike = c.lowest_bit-unlike.result in (
      λ past m day there. let far = leb-true _ _ past in alike_before words others place unlike c.lowest_bit-unlike.ensures.out m there (omega (arith, far)),
      λ alike. elim (cases_lt (64 * place + unlike) 1440) [
        | inl lt ↦ absurd (c.if-unlike-eq64.false (alike_past words others place unlike (omega arith) c.lowest_bit-unlike.ensures.set alike lt))
        | inr ge ↦ le-leb _ _ ge
      ],
    )
