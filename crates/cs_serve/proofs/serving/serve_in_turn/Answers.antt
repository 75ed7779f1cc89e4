use Rattle.std.proofs.Common.{◌∷◌, Option, subst}
use Rattle.std.specs.Prelude.{IfSome}
use Rattle.cs_serve.proofs.Turns.{last_of}
use Rattle.cs_files.specs.Ending.{sink}
use Rattle.cs_serve.specs.Serve.{IsFollowed}
use Rattle.cs_serve.specs.declared.serving.Next.{Next}
use Rattle.cs_serve.proofs.serving.serve_in_turn.Goals as goal

pub loop-preserved : goal.loop-preserved
loop-preserved g c =
    let out = sink (g.O.Output.contents c.loop.out) (g.O.Output.failed c.loop.out) in
    let err = sink (g.E.Output.contents c.loop.err) (g.E.Output.failed c.loop.err) in
    let err-new = sink (g.E.Output.contents c.serve_one-status.new.err) (g.E.Output.failed c.serve_one-status.new.err) in
    let followed : IsFollowed c.loop.order err err-new c.in-Some-next.next.order =
    subst (λ (next : Option (Next g.row.R.Denot)). IfSome next (λ it. IsFollowed c.loop.order err err-new it.order)) c.in-Some-next.is c.serve_one-status.ensures.next in
    (c.loop.order ∷ c.loop.invariant.0, (out, err, c.loop.invariant.1, followed))

pub returns-in_default : goal.returns-in_default
returns-in_default g c = last_of c.args.order _ _ _ _ _ c.loop.invariant.0 c.loop.order _ _ c.loop.invariant.1 c.serve_one-status.ensures.comes

pub returns-then-is_there : goal.returns-then-is_there
returns-then-is_there g c = last_of c.args.order _ _ _ _ _ c.loop.invariant.0 c.loop.order _ _ c.loop.invariant.1 c.serve_one-status.ensures.comes
