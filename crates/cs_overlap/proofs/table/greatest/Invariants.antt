use Rattle.std.proofs.Common.{◌≡◌, ℕ, take, length, slice_index}
use Rattle.cs_overlap.specs.Sums.{IsGreatest, IsReached, amount_in}
use Rattle.cs_overlap.proofs.table.greatest.Given as goal

abbrev pub invariant-loop-window : goal.invariant-loop-window
invariant-loop-window l = record {
  long : length l.table ≡ 1440;
  since_long : length l.since ≡ 256;
  until_long : length l.until ≡ 256;
  most : IsGreatest (amount_in l.roles l.amount) (take l.window-index l.windows) l.table;
  known : (k : ℕ) → IsReached k (slice_index l.since k) (slice_index l.until k) l.table;
}
