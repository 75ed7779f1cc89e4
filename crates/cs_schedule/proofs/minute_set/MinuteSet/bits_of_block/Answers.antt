use Rattle.std.proofs.Common.{◌+◌, ◌*◌, ◌∙◌, sym, ap, arith, ℕ, nat_eq}
use Rattle.std.proofs.lemmas.Nat.Bits.{bit_at-zero}
use Rattle.cs_schedule.proofs.NearMinutes.{bit_of_rest, in_set, low_bit, out_of_day, rest_of}
use Rattle.cs_schedule.proofs.minute_set.MinuteSet.bits_of_block.Goals as goal

pub returns-then-block-ge45 : goal.returns-then-block-ge45
returns-then-block-ge45 c place low =
    ap (λ (b : ℕ). nat_eq b 1) (bit_at-zero place)
    ∙ sym (out_of_day c.self.inside.words c.args.self.now c.self.view_is (32 * c.args.block + place) (omega arith))

pub returns : goal.returns
returns c place low =
    let words = c.self.inside.words in
    let first = 32 * c.args.block in
    ap (λ (b : ℕ). nat_eq b 1) (low_bit (rest_of words first) 32 place low)
    ∙ bit_of_rest words first place (omega arith)
    ∙ sym (in_set words c.args.self.now c.self.view_is (first + place) (omega arith))
