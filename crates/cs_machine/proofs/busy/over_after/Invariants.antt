use Rattle.std.proofs.Common.{◌+◌}
use Rattle.cs_machine.specs.Busy.{IsOver}
use Rattle.cs_machine.proofs.busy.over_after.Given as goal

abbrev pub invariant-loop-note : goal.invariant-loop-note
invariant-loop-note l = IsOver l.jobs (l.minute + 1) l.over
