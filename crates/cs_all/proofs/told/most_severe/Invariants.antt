use Rattle.std.proofs.Common.{map, take}
use Rattle.cs_all.specs.Answer.{IsMostSevere}
use Rattle.cs_all.proofs.told.most_severe.Given as goal

abbrev pub invariant-loop-told : goal.invariant-loop-told
invariant-loop-told l = IsMostSevere (map (λ told. told.status) (take l.told-index l.all)) l.most
