use Rattle.std.proofs.Common.{◌≡◌, ◌+◌, ◌-◌, arith, ℕ, length, ◌∷◌, sym, ◌∙◌, ap}
use Rattle.cs_schedule.specs.Minutes.{minutes_from}
use Rattle.cs_schedule.proofs.NearMinutes.{minutes_skip}
use Rattle.cs_schedule.proofs.Words.{minutes_in_next, minutes_out_next, minutes_end}
use Rattle.cs_schedule.proofs.minute_set.MinutesIterator.next.Goals as goal

passed : (c : goal.Then-is_set) → c.args.self.now ≡ minutes_from c.loop-self.self-inside.words c.near-minute.result
passed c = sym c.loop-self.invariant.1 ∙ minutes_skip c.loop-self.self-inside.words c.loop-self.self-inside.next (c.near-minute.result - c.loop-self.self-inside.next) c.near-minute.result (omega arith) (omega arith) c.near-minute.ensures.out

one_less : (c : goal.Then-is_set) → c.args.self.now ≡ c.near-minute.result ∷ minutes_from c.loop-self.self-inside.words (c.near-minute.result + 1)
one_less c = passed c ∙ minutes_in_next c.loop-self.self-inside.words c.near-minute.result (omega arith) (sym c.is_set.ensures ∙ c.if-is_set.true)

pub returns-then-is_set-clause-steps : goal.returns-then-is_set-clause-steps
returns-then-is_set-clause-steps c = one_less c

pub returns-then-is_set-clause-goes : goal.returns-then-is_set-clause-goes
returns-then-is_set-clause-goes c = record { on = λ fin. (tt, fin, omega (arith, ap (length {A = ℕ}) (one_less c))); keeps = tt; rests = λ fin. tt }

pub loop-self-preserved : goal.loop-self-preserved
loop-self-preserved c =
    let words = c.loop-self.self-inside.words in
    let next = c.loop-self.self-inside.next in
    let minute = c.near-minute.result in (
      omega arith,
      sym (minutes_out_next words minute (omega arith) (sym c.is_set.ensures ∙ c.if-is_set.false)) ∙ sym (minutes_skip words next (minute - next) minute (omega arith) (omega arith) c.near-minute.ensures.out) ∙ c.loop-self.invariant.1,
    )

pub returns-clause-steps : goal.returns-clause-steps
returns-clause-steps c =
    let none = minutes_end c.loop-self.self-inside.words c.loop-self.self-inside.next c.loop-self-test.false in
    (sym c.loop-self.invariant.1 ∙ none, none)
