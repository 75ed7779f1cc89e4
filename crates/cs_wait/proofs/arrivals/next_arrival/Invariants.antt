use Rattle.std.proofs.Common.{◌≡◌, ℕ, ◌≤◌, ◌<◌, slice_index}
use Rattle.cs_wait.proofs.arrivals.next_arrival.Given as goal

abbrev pub invariant-loop-minute : goal.invariant-loop-minute
invariant-loop-minute l = (t : ℕ) → l.first ≤ t → t < l.minute → slice_index l.sums t ≡ 0
