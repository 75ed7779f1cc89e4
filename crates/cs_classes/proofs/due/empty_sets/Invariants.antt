use Rattle.std.proofs.Common.{◌≡◌, [], ℕ, ◌<◌, length, slice_index_or}
use Rattle.cs_classes.proofs.due.empty_sets.Given as goal

abbrev pub invariant-loop : goal.invariant-loop
invariant-loop l = (length l.sets.items ≡ l.counter) × ((j : ℕ) → j < l.counter → slice_index_or l.sets.items j [] ≡ [])
