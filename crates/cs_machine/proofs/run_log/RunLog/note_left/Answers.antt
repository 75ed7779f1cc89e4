use Rattle.std.proofs.Common.{◌∙◌, ℕ, Option, None, subst, sym}
use Rattle.std.specs.Result.{OnOk}
use Rattle.std.specs.Io.KnownBytes.{Appends}
use Rattle.cs_machine.specs.RunLog.{IsCalled, line_text}
use Rattle.cs_machine.proofs.run_log.RunLog.note_left.Goals as goal

pub returns-clause-calls : goal.returns-clause-calls
returns-clause-calls g c =
    let called = c.take.ensures.calls in
    (called.0, c.take.result, subst (λ calls. IsCalled c.args.self.now.setup c.args.text.now c.take.result called.0 c.args.self.now.calls.items calls.items) (sym c.note.ensures.left.0) called.1)

pub returns-clause-timed : goal.returns-clause-timed
returns-clause-timed g c = λ timed. subst (λ o. OnOk c.note.result ((at : Option ℕ) × Appends (g.W.Write.contents o) (g.W.Write.contents c.note.new.self.out) (line_text at c.args.text.now None))) c.take.ensures.left.0 (c.note.ensures.timed (c.take.ensures.left.2 ∙ timed))
