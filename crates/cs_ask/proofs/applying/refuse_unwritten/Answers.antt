use Rattle.std.proofs.Common.{inl, subst}
use Rattle.cs_files.specs.Response.{Ending, status_of}
use Rattle.cs_files.specs.Ending.{Ends, sink}
use Rattle.cs_ask.proofs.applying.refuse_unwritten.Goals as goal

pub returns-in-Ok : goal.returns-in-Ok
returns-in-Ok g c = inl (subst (λ (e : Ending). Ends e
    (sink (g.O.Output.contents c.args.out.now) (g.O.Output.failed c.args.out.now))
    (sink (g.O.Output.contents c.finish.new.out) (g.O.Output.failed c.finish.new.out))
    (sink (g.E.Output.contents c.args.err.now) (g.E.Output.failed c.args.err.now))
    (sink (g.E.Output.contents c.finish.new.err) (g.E.Output.failed c.finish.new.err))
    (status_of c.finish.result)) c.in-Ok.ensures c.finish.ensures)
