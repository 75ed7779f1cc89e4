use Rattle.std.proofs.Common.{All, take}
use Rattle.cs_learn.specs.Learned.{Gives}
use Rattle.cs_learn.proofs.learned.give.Given as goal

abbrev pub invariant-loop-job : goal.invariant-loop-job
invariant-loop-job l = All (Gives l.factor l.given) (take l.job-index l.jobs)
