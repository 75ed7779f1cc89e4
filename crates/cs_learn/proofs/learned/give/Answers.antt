use Rattle.std.proofs.Common.{arith, subst}
use Rattle.std.proofs.lemmas.List.{take_all}
use Rattle.std.proofs.lemmas.List.Elements.{All-more}
use Rattle.std.specs.Prelude.{All}
use Rattle.cs_learn.specs.Learned.{Gives}
use Rattle.cs_learn.proofs.learned.give.Goals as goal

pub loop-job-preserved : goal.loop-job-preserved
loop-job-preserved c =
    let P = Gives c.args.factor c.args.given.now in
    All-more P c.args.jobs.now c.loop-job.job-index c.job-item.result (omega arith) c.loop-job.invariant (subst P c.job-item.is (c.gives.ensures c.if-not-gives.false))

pub returns : goal.returns
returns c = λ _. subst (All (Gives c.args.factor c.args.given.now)) (take_all c.loop-job.job-index c.args.jobs.now (omega arith)) c.loop-job.invariant
