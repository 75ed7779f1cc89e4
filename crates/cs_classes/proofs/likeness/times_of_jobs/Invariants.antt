use Rattle.std.proofs.Common.{◌≡◌, ◌<◌, ℕ, length, slice_index_or}
use Rattle.cs_plan.specs.Plan.{command_of}
use Rattle.cs_classes.specs.Likeness.{AreTimesOf, no_times}
use Rattle.cs_classes.proofs.likeness.times_of_jobs.Given as goal

abbrev pub invariant-loop-line : goal.invariant-loop-line
invariant-loop-line l =
    (length l.times.items ≡ l.line-index)
    × ((j : ℕ) → j < l.line-index → AreTimesOf l.plan.zone (command_of l.plan j).when (slice_index_or l.times.items j no_times))
