use Rattle.std.proofs.Common.{◌≡◌, ℕ, ◌≤◌, ◌<◌, ◌⊎◌, slice_index}
use Rattle.cs_overlap.proofs.sums.first_clash.Given as goal

abbrev pub invariant-loop-minute : goal.invariant-loop-minute
invariant-loop-minute l = (m : ℕ) → m < l.minute → (slice_index l.runs m ≤ 1) ⊎ ((slice_index l.plain m ≡ 0) ⊎ (slice_index l.cron m ≡ 0))
