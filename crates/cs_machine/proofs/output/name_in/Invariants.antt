use Rattle.std.proofs.Common.{◌≡◌, drop}
use Rattle.cs_machine.specs.Output.{name_in}
use Rattle.cs_machine.proofs.output.name_in.Given as goal

abbrev pub invariant-loop-job : goal.invariant-loop-job
invariant-loop-job l = name_in l.run (drop l.job-index l.names) ≡ name_in l.run l.names
