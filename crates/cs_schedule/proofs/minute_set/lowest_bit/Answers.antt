use Rattle.cs_schedule.proofs.NearMinutes.{below_lowest, at_lowest}
use Rattle.cs_schedule.proofs.minute_set.lowest_bit.Goals as goal

pub returns-clause-out : goal.returns-clause-out
returns-clause-out c = λ i low. below_lowest c.args.word i c.ranges.word.fits low

pub returns-clause-set : goal.returns-clause-set
returns-clause-set c = λ low. at_lowest c.args.word c.ranges.word.fits low
