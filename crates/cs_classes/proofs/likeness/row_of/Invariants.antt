use Rattle.std.proofs.Common.{◌≡◌, ◌<◌, ℕ, [], length, slice_index_or}
use Rattle.cs_schedule.specs.Numbers.{has}
use Rattle.cs_classes.specs.Likeness.{likeness_at, likeness_by, no_times}
use Rattle.cs_classes.proofs.likeness.row_of.Given as goal

abbrev pub invariant-loop-job : goal.invariant-loop-job
invariant-loop-job l =
    (length l.row ≡ l.job)
    × ((j : ℕ) → j < l.job → likeness_at l.row j ≡ likeness_by (has (slice_index_or l.minutes.items j [])) (slice_index_or l.times j no_times))
