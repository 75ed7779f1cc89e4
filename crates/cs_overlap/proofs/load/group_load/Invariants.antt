use Rattle.std.proofs.Common.{◌≡◌, ◌≤◌, ◌*◌, ◌^◌, max, slice_index}
use Rattle.cs_history.specs.Lists.{total, below}
use Rattle.cs_overlap.proofs.load.group_load.Given as goal

abbrev pub invariant-loop-group : goal.invariant-loop-group
invariant-loop-group l = (l.sum ≡ total (λ g. max (slice_index l.alone g) (slice_index l.shared g)) (below l.group)) × (l.sum ≤ 2 ^ 100 * l.group)
