use Rattle.cs_machine.specs.Output.{AreOthers}
use Rattle.cs_machine.proofs.output.add_others.Given as goal

abbrev pub invariant-loop-entry : goal.invariant-loop-entry
invariant-loop-entry g l = AreOthers l.file l.fn.names.items → AreOthers l.file l.names.items
