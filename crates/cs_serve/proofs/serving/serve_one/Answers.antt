use Rattle.cs_serve.proofs.Turns.{refused}
use Rattle.cs_serve.specs.declared.obstacle.Obstacle.TheVariants.{NoLog}
use Rattle.cs_serve.proofs.serving.serve_one.Goals as goal

pub returns-clause-comes : goal.returns-clause-comes
returns-clause-comes g c = refused NoLog c.args.order _ _ _ _ _ c.refuse.ensures
