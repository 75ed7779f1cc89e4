use Rattle.std.proofs.Common.{ℕ, ◌<◌, ◌≤◌}
use Rattle.cs_machine.specs.Busy.{IsBusy, IsOver}
use Rattle.cs_machine.proofs.busy.is_busy.Given as goal

abbrev pub invariant-loop-number : goal.invariant-loop-number
invariant-loop-number l = record {
  over : IsOver l.jobs l.number l.over;
  busy : (t : ℕ) → l.fn.from ≤ t → t < l.number → IsBusy l.jobs t;
}
