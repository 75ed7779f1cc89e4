use Rattle.std.proofs.Common.{List}
use Rattle.cs_ruling.specs.declared.answer.Order.{Order}
use Rattle.cs_files.specs.Ending.{sink}
use Rattle.cs_serve.specs.Serve.{ComesBehind}
use Rattle.cs_serve.proofs.serving.serve_in_turn.Given as goal

-- the order comes after those that were served
abbrev pub invariant-loop : goal.invariant-loop
invariant-loop g l = (earlier : List Order) × ComesBehind l.fn.order (sink (g.O.Output.contents l.fn.out) (g.O.Output.failed l.fn.out)) (sink (g.E.Output.contents l.fn.err) (g.E.Output.failed l.fn.err)) earlier l.order (sink (g.O.Output.contents l.out) (g.O.Output.failed l.out)) (sink (g.E.Output.contents l.err) (g.E.Output.failed l.err))
