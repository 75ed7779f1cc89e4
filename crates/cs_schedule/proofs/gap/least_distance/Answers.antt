use Rattle.std.proofs.Common.{arith, sym, ◌∙◌}
use Rattle.cs_schedule.proofs.Apart.{are_apart, in_day, met, one_more}
use Rattle.cs_schedule.proofs.gap.least_distance.Goals as goal

pub is_met-requires-clause-day : goal.is_met-requires-clause-day
is_met-requires-clause-day c = rw c.times-times.ensures (in_day _)

pub returns-then-is_met-clause-met : goal.returns-then-is_met-clause-met
returns-then-is_met-clause-met c =
    sym (met c.args.first.now c.args.second.now c.args.most c.times-times.result c.times-later_times.result _ c.loop-gap.gap c.times-times.ensures c.times-later_times.ensures c.days_between-days.ensures (omega arith)) ∙ (sym c.is_met.ensures ∙ c.if-is_met.true)

pub returns-then-is_met-clause-apart : goal.returns-then-is_met-clause-apart
returns-then-is_met-clause-apart c = are_apart _ _ _ _ c.loop-gap.invariant

pub loop-gap-preserved : goal.loop-gap-preserved
loop-gap-preserved c =
    one_more c.args.first.now c.args.second.now c.args.least c.loop-gap.gap c.loop-gap.invariant (sym (met c.args.first.now c.args.second.now c.args.most c.times-times.result c.times-later_times.result _ c.loop-gap.gap c.times-times.ensures c.times-later_times.ensures c.days_between-days.ensures (omega arith)) ∙ (sym c.is_met.ensures ∙ c.if-is_met.false))

pub returns-clause-apart : goal.returns-clause-apart
returns-clause-apart c = are_apart _ _ _ _ (λ g from below. c.loop-gap.invariant g from (omega arith))
