use Rattle.std.proofs.Common.{◌∙◌, ap, sym, ℕ, List, arith}
use Rattle.cs_schedule.specs.Numbers.{has, has_bit}
use Rattle.cs_schedule.proofs.Hours.{between}
use Rattle.cs_schedule.proofs.Ranges.{has-numbers_where}
use Rattle.cs_schedule.proofs.numbers.Numbers.bits_between.Goals as goal

pub returns : goal.returns
returns c k =
    let word = c.self.inside.word in
    between word c.args.low c.args.high k (omega arith) (omega arith) (has c.args.self.now k)
    (λ lt. sym (has-numbers_where (has_bit word) k lt) ∙ ap (λ (f : List ℕ). has f k) c.self.view_is)
