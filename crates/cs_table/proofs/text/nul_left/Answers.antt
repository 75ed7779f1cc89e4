use Rattle.std.proofs.Common.{arith}
use Rattle.cs_table.proofs.Quotes.{left_at, none_left}
use Rattle.cs_table.proofs.text.nul_left.Goals as goal

pub returns-in-Some : goal.returns-in-Some
returns-in-Some c =
    let first = c.in-Some.ensures in
    left_at 0 c.args.line.now c.in-Some.at first.0.high (λ j lt is. first.0.before j (omega arith) lt is) first.1

pub returns-in-None : goal.returns-in-None
returns-in-None c = none_left 0 c.args.line.now (λ k below is. c.in-None.ensures k (omega arith) below is)
