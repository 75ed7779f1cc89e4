use Rattle.std.proofs.Common.{inl, inr, refl, subst}
use Rattle.cs_files.specs.Ending.{Tries, sink}
use Rattle.cs_serve.proofs.Turns.{unserved}
use Rattle.cs_serve.specs.declared.obstacle.Obstacle.TheVariants.{NoLog}
use Rattle.cs_serve.proofs.serving.try_out.Goals as goal

pub returns-then-not-has_log : goal.returns-then-not-has_log
returns-then-not-has_log g c = inl (unserved NoLog c.args.order _ _ _ _ _ c.refuse.ensures)

pub returns : goal.returns
returns g c =
    let err-old = sink (g.E.Output.contents c.args.err.now) (g.E.Output.failed c.args.err.now) in
    let err-new = sink (g.E.Output.contents c.tell.new.err) (g.E.Output.failed c.tell.new.err) in
    let told : Tries c.args.order.warnings err-old err-new = subst (λ t. Tries t err-old err-new) c.as_slice.ensures c.tell.ensures in
    inr (inl (c.requires, (refl, refl, told)))
