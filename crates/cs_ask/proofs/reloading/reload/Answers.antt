use Rattle.std.proofs.Common.{rules, inl, inr, refl}
use Rattle.cs_files.specs.Response.{status_of}
use Rattle.cs_files.specs.Ending.{RunsOut, sink}
use Rattle.cs_ask.proofs.reloading.reload.Goals as goal

pub returns-in_default : goal.returns-in_default
returns-in_default g c =
    let out = sink (g.O.Output.contents c.args.out.now) (g.O.Output.failed c.args.out.now) in
    let err-old = sink (g.E.Output.contents c.args.err.now) (g.E.Output.failed c.args.err.now) in
    let err-new = sink (g.E.Output.contents c.run_out.new.err) (g.E.Output.failed c.run_out.new.err) in
    let ran : RunsOut out out err-old err-new (status_of c.run_out.result) = search rules in
    (err-old, inl refl, inr ran)

pub returns-in-Ok-response_of : goal.returns-in-Ok-response_of
returns-in-Ok-response_of g c = (_, c.ask_and_wait-answer.ensures, inl (_, c.in-Ok-response_of.ensures.outcome, c.finish.ensures))

pub returns : goal.returns
returns g c =
    let out = sink (g.O.Output.contents c.args.out.now) (g.O.Output.failed c.args.out.now) in
    let waited = sink (g.E.Output.contents c.ask_and_wait-answer.new.err) (g.E.Output.failed c.ask_and_wait-answer.new.err) in
    let err-new = sink (g.E.Output.contents c.run_out-in-Err.new.err) (g.E.Output.failed c.run_out-in-Err.new.err) in
    let ran : RunsOut out out waited err-new (status_of c.run_out-in-Err.result) = search rules in
    (waited, c.ask_and_wait-answer.ensures, inr ran)
