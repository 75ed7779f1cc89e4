use Rattle.std.proofs.Common.{◌<◌, ℕ, slice_index_or}
use Rattle.cs_plan.specs.Plan.{no_command}
use Rattle.cs_advise.specs.Change.{IsMovedLine, shift_of}
use Rattle.cs_advise.proofs.changing.are_moved.Given as goal

abbrev pub invariant-loop-job : goal.invariant-loop-job
invariant-loop-job l =
    (j : ℕ) → j < l.job
    → IsMovedLine (shift_of l.change j)
    (slice_index_or l.old j no_command) (slice_index_or l.new j no_command)
