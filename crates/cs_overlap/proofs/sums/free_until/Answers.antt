use Rattle.cs_overlap.proofs.SumLemmas.{free_day, free_none}
use Rattle.cs_overlap.proofs.sums.free_until.Goals as goal

pub returns-then-not-any_skips-clause-free : goal.returns-then-not-any_skips-clause-free
returns-then-not-any_skips-clause-free c = free_none c.args.roles.now 1440 c.args.windows.now (c.any_skips.ensures c.if-not-any_skips.true)

pub returns-clause-free : goal.returns-clause-free
returns-clause-free c = free_day c.args.roles.now c.all_lone_until.result c.args.windows.now c.sums-takers.result c.sums-takers.ensures.each c.all_lone_until.ensures.range c.all_lone_until.ensures.lone
