use Rattle.std.proofs.Common.{◌≡◌, drop}
use Rattle.cs_machine.specs.Setup.{note_of}
use Rattle.cs_machine.proofs.setup.note_of.Given as goal

abbrev pub invariant-loop-note : goal.invariant-loop-note
invariant-loop-note l = note_of l.run (drop l.note-index l.jobs) ≡ note_of l.run l.jobs
