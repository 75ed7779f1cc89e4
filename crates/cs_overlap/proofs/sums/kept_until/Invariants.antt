use Rattle.std.proofs.Common.{◌≡◌, ◌≤◌, ℕ, ◌<◌, length, filter, true}
use Rattle.cs_overlap.specs.Sums.{AreApartBy, AreFreeBy, IsLoad, is_of}
use Rattle.cs_overlap.proofs.sums.kept_until.Given as goal

abbrev pub invariant-loop-group : goal.invariant-loop-group
invariant-loop-group l = record {
  long : length l.load ≡ 1440;
  load : l.is_asked ≡ true → IsLoad l.roles l.windows l.group l.load;
  apart_range : l.apart ≤ 1440;
  apart : (g : ℕ) → g < l.group → AreApartBy l.apart l.roles (filter (is_of l.roles g) l.windows);
  free_range : l.free ≤ 1440;
  free : (g : ℕ) → g < l.group → AreFreeBy l.free l.roles (filter (is_of l.roles g) l.windows);
}
