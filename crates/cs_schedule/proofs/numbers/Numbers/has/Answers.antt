use Rattle.std.proofs.Common.{ap, sym, ◌∙◌, nat_eq, List, ℕ, arith}
use Rattle.std.proofs.lemmas.Nat.Bits.{shr_and_one}
use Rattle.std.proofs.lemmas.Bool.{le-ltb}
use Rattle.cs_schedule.specs.Numbers.{has, has_bit}
use Rattle.cs_schedule.proofs.Ranges.{has-numbers_where, has-numbers_where_past}
use Rattle.cs_schedule.proofs.numbers.Numbers.has.Goals as goal

pub returns-then-number-lt64 : goal.returns-then-number-lt64
returns-then-number-lt64 c =
    let word = c.self.inside.word in
    ap (λ b. nat_eq b 1) (shr_and_one word c.args.number) ∙ sym (has-numbers_where (has_bit word) c.args.number (omega arith))
    ∙ ap (λ (f : List ℕ). has f c.args.number) c.self.view_is

pub returns-else-number-lt64 : goal.returns-else-number-lt64
returns-else-number-lt64 c =
    le-ltb c.args.number 64 (omega arith) ∙ sym (has-numbers_where_past (has_bit c.self.inside.word) c.args.number (omega arith)) ∙ ap (λ (f : List ℕ). has f c.args.number) c.self.view_is
