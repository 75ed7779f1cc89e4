use Rattle.cs_schedule.specs.Gap.{NoneFrom}
use Rattle.cs_schedule.proofs.gap.least_distance.Given as goal

-- none of the gaps so far
abbrev pub invariant-loop-gap : goal.invariant-loop-gap
invariant-loop-gap l = NoneFrom l.first l.second l.least l.gap
