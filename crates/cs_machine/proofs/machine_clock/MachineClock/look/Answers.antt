use Rattle.std.proofs.Common.{ap, rules}
use Rattle.cs_machine.specs.Passing.{is_behind}
use Rattle.cs_machine.proofs.machine_clock.MachineClock.look.Goals as goal

pub returns-clause-first : goal.returns-clause-first
returns-clause-first g c = λ none. let same = c.watch.ensures.untold (ap (λ l. is_behind l c.in-Some.minute) none) in search rules
