use Rattle.std.proofs.Common.{◌≡◌, ℕ, ◌≤◌, ◌<◌, length, max, slice_index}
use Rattle.cs_overlap.proofs.table.raise.Given as goal

abbrev pub invariant-loop-minute : goal.invariant-loop-minute
invariant-loop-minute l = record {
  long : length l.table ≡ 1440;
  held : (m : ℕ) → l.start ≤ m → m < l.minute → slice_index l.table m ≡ max (slice_index l.initial.table m) l.number;
  before : (m : ℕ) → m < l.start → slice_index l.table m ≡ slice_index l.initial.table m;
  after : (m : ℕ) → l.minute ≤ m → slice_index l.table m ≡ slice_index l.initial.table m;
  past : (m : ℕ) → l.end ≤ m → slice_index l.table m ≡ slice_index l.initial.table m;
}
