use Rattle.std.proofs.Common.{map, subst}
use Rattle.cs_ruling.specs.declared.answer.Answer.{Answer}
use Rattle.cronsafe.specs.Call.{Answers}
use Rattle.cronsafe.proofs.program.ending_of.Goals as goal

pub returns-in-Ok-Ends : goal.returns-in-Ok-Ends
returns-in-Ok-Ends g c =
    let words = map g.S.AsStr.text c.args.words.now in
    let files = g.I.Inputs.whole c.args.inputs.now in
    let before = g.I.Inputs.failed c.args.inputs.now in
    let failed = g.I.Inputs.failed c.respond.new.inputs in
    let (w, told, (warns, value)) = c.in-Ok-Ends.ensures.value c.requires in
    (w, subst (λ (answer : Answer). Answers words files w before failed answer) c.in-Ok-Ends.field-0-is value)
