use Rattle.std.proofs.Common.{◌∙◌, ap, sym}
use Rattle.std.proofs.lemmas.Option.{IfSome_then}
use Rattle.cs_device.specs.Telling.{said}
use Rattle.cs_machine.proofs.Ticks.{said_minute, said_shown}
use Rattle.cs_machine.proofs.machine_clock.MachineClockClock.tick.Goals as goal

pub returns-clause-resumed : goal.returns-clause-resumed
returns-clause-resumed g c = λ none.
    let self = c.args.self.now in
    let told = c.answer-tick.new.self.told in
    IfSome_then self.latest (c.answer-tick.ensures.resumed none) (λ minute is. c.tell.ensures.answer ∙ ap (said told) is ∙ said_shown told self.limit self.first minute)

pub returns-clause-begun : goal.returns-clause-begun
returns-clause-begun g c = λ none first m is. c.answer-tick.ensures.begun none first m (said_minute c.answer-tick.new.self.told c.answer-tick.result m (sym c.tell.ensures.answer ∙ is))
