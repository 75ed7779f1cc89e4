use Rattle.std.proofs.Common.{arith}
use Rattle.cs_overlap.proofs.SumLemmas.{within_own}
use Rattle.cs_overlap.proofs.sums.quick_until.Goals as goal

pub returns-clause-within : goal.returns-clause-within
returns-clause-within c = λ n.
    within_own c.args.roles.now c.first_over.result n c.args.capacity c.args.windows.now c.args.most.now c.add_catch_up.new.table
    (omega arith) c.first_over.ensures.range c.requires.most.1 c.add_catch_up.ensures.each c.first_over.ensures.within
