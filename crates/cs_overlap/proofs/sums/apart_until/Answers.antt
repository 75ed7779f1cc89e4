use Rattle.std.proofs.Common.{⊎_elim}
use Rattle.cs_overlap.proofs.SumLemmas.{apart_day, apart_lockers, apart_none}
use Rattle.cs_overlap.proofs.sums.apart_until.Goals as goal

pub returns-then-not-may_clash-clause-apart : goal.returns-then-not-may_clash-clause-apart
returns-then-not-may_clash-clause-apart c = ⊎_elim (apart_none c.args.roles.now 1440 c.args.windows.now) (apart_lockers c.args.roles.now 1440 c.args.windows.now) (c.may_clash.ensures c.if-not-may_clash.true)

pub returns-clause-apart : goal.returns-clause-apart
returns-clause-apart c =
    apart_day c.args.roles.now c.first_clash.result c.args.windows.now c.sums-runs.result c.sums-plain.result c.sums-cron.result
    c.sums-runs.ensures.each c.sums-plain.ensures.each c.sums-cron.ensures.each c.first_clash.ensures.range c.first_clash.ensures.none
