use Rattle.std.proofs.Common.{◌∙◌, ℕ, inl, inr, refl, subst, sym}
use Rattle.cs_files.specs.Ending.{Ends, sink}
use Rattle.cronsafe_aids.proofs.run.run_words.Goals as goal

pub returns-in-Ok-clause-value : goal.returns-in-Ok-clause-value
returns-in-Ok-clause-value g c = λ fresh.
    let answer = c.in-Ok.response in
    let warned = sink (g.E.Output.contents c.respond.new.err) (g.E.Output.failed c.respond.new.err) in
    let (w, told, (warns, value)) = c.in-Ok.ensures.value fresh in
    let ends = subst (λ (status : ℕ). Ends answer (sink (g.O.Output.contents c.args.out.now) (g.O.Output.failed c.args.out.now)) (sink (g.O.Output.contents c.finish.new.out) (g.O.Output.failed c.finish.new.out)) warned (sink (g.E.Output.contents c.finish.new.err) (g.E.Output.failed c.finish.new.err)) status) (sym c.code.ensures) c.finish.ensures in
    (warned, (w, told, (warns, inl (answer, (value, c.in-Ok.ensures.status, ends)))))

pub returns-in-Err-clause-value : goal.returns-in-Err-clause-value
returns-in-Err-clause-value g c = λ fresh.
    let warned = sink (g.E.Output.contents c.respond.new.err) (g.E.Output.failed c.respond.new.err) in
    let (w, told, (warns, value)) = c.in-Err.ensures.value fresh in
    (warned, (w, told, (warns, inr (c.code-in-Err.ensures ∙ c.run_out.ensures.status, refl, c.run_out.ensures.told))))
