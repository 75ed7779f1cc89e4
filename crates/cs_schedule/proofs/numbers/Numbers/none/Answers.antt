use Rattle.std.proofs.Common.{refl}
use Rattle.cs_schedule.specs.Numbers.{numbers_where}
use Rattle.cs_schedule.proofs.numbers.Numbers.none.Goals as goal

pub returns : goal.returns
unfolding numbers_where
returns c = refl
