use Rattle.std.proofs.Common.{arith, refl}
use Rattle.cs_advise.proofs.Shifts.{comes_daily, comes_within}
use Rattle.cs_advise.proofs.later.is_later.Goals as goal

pub returns-then-stays : goal.returns-then-stays
returns-then-stays c = λ stays.
    comes_within c.args.one.now c.args.other.now _ _ c.args.minutes (omega arith) c.times-times.ensures c.times.ensures (c.if-not-are_days_alike.ensures refl) (c.if-are_later.ensures refl) (c.if-stays.ensures refl)

pub returns-else-stays : goal.returns-else-stays
returns-else-stays c = λ daily.
    comes_daily c.args.one.now c.args.other.now _ _ c.args.minutes (omega arith) c.times-times.ensures c.times.ensures (c.if-not-are_days_alike.ensures refl) (c.if-are_later.ensures refl) (c.is_daily.ensures daily)
