use Rattle.std.proofs.Common.{◌≡◌, map, take}
use Rattle.cs_machine.specs.Output.{named_job}
use Rattle.cs_machine.proofs.output.names_of.Given as goal

abbrev pub invariant-loop-note : goal.invariant-loop-note
invariant-loop-note l = l.names.items ≡ map named_job (take l.note-index l.jobs)
