use Rattle.std.proofs.Common.{refl}
use Rattle.std.proofs.lemmas.List.{get_or-replicate}
use Rattle.cs_wait.specs.Bounds.{none}
use Rattle.cs_wait.proofs.arrivals.Arrivals.none.Goals as goal

pub returns-clause-value : goal.returns-clause-value
unfolding none
returns-clause-value c = refl

pub returns-clause-zero : goal.returns-clause-zero
unfolding none
returns-clause-zero c = λ minute within. get_or-replicate 1440 minute 0 0 within
