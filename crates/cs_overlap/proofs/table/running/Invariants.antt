use Rattle.std.proofs.Common.{◌≡◌, ℕ, ◌+◌, ◌*◌, ◌≤◌, ◌<◌, length, slice_index}
use Rattle.cs_overlap.specs.Sums.{capped, up_to}
use Rattle.cs_overlap.proofs.table.running.Given as goal

abbrev pub invariant-loop-minute : goal.invariant-loop-minute
invariant-loop-minute l = record {
  long : length l.table ≡ 1440;
  open_now : up_to l.ended l.minute + l.open ≡ up_to l.begun l.minute;
  small : l.open ≤ 4294967296 * l.minute;
  so_far : (m n : ℕ) → m < l.minute → up_to l.begun (m + 1) ≡ up_to l.ended (m + 1) + n → slice_index l.table m ≡ capped n;
}
