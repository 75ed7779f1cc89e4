use Rattle.std.proofs.Common.{◌≡◌, ◌-◌, ◌/◌, ◌∙◌, sym, ap, ℕ, nat_eq, arith}
use Rattle.cs_schedule.proofs.NearMinutes.{bit_at_minute, set_near}
use Rattle.cs_schedule.proofs.minute_set.near.Goals as goal

pub returns-clause-out : goal.returns-clause-out
returns-clause-out c k low high =
    let minute = c.args.minute in
    let same : k / 64 ≡ minute / 64 = omega arith in
    sym (bit_at_minute c.args.words.now minute k low same) ∙ ap (λ (b : ℕ). nat_eq b 1) (c.lowest_bit-clear.ensures.out (k - minute) (omega arith))

pub returns-clause-set : goal.returns-clause-set
returns-clause-set c k low day same is =
    set_near c.args.words.now c.args.minute c.lowest_bit-clear.result c.min-last.result c.min.result k c.lowest_bit-clear.ensures.out c.lowest_bit-clear.ensures.set (omega arith) (omega arith) low day same is
