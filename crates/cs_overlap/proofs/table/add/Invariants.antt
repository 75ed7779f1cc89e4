use Rattle.std.proofs.Common.{◌≡◌, ℕ, ◌+◌, ◌≤◌, ◌<◌, length, min, slice_index}
use Rattle.cs_overlap.proofs.table.add.Given as goal

abbrev pub invariant-loop-minute : goal.invariant-loop-minute
invariant-loop-minute l = record {
  long : length l.table ≡ 1440;
  held : (m : ℕ) → l.first ≤ m → m < l.minute → slice_index l.table m ≡ min (slice_index l.initial.table m + l.number) 65535;
  before : (m : ℕ) → m < l.first → slice_index l.table m ≡ slice_index l.initial.table m;
  after : (m : ℕ) → l.minute ≤ m → slice_index l.table m ≡ slice_index l.initial.table m;
}
