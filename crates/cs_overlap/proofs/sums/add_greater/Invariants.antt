use Rattle.std.proofs.Common.{◌≡◌, ℕ, ◌+◌, ◌≤◌, ◌<◌, length, max, min, slice_index}
use Rattle.cs_overlap.proofs.sums.add_greater.Given as goal

abbrev pub invariant-loop-minute : goal.invariant-loop-minute
invariant-loop-minute l = record {
  long : length l.load ≡ 1440;
  so_far : (m : ℕ) → m < l.minute → slice_index l.load m ≡ min (slice_index l.initial.load m + max (slice_index l.one m) (slice_index l.other m)) 65535;
  to_come : (m : ℕ) → l.minute ≤ m → slice_index l.load m ≡ slice_index l.initial.load m;
}
