use Rattle.std.proofs.Common.{max, arith, slice_index}
use Rattle.cs_overlap.specs.Roles.{group_weight}
use Rattle.cs_overlap.proofs.Weights.{total_same}
use Rattle.cs_overlap.proofs.load.load.Goals as goal

pub returns : goal.returns
returns c = omega (arith, c.free_load.ensures.sum, c.group_load.ensures.sum, c.catch_load.ensures, total_same (λ g. max (slice_index c.alone_loads-alone.result g) (slice_index c.shared_loads-shared.result g)) (group_weight c.args.roles.now c.args.windows.now) c.args.groups (λ g lt. omega (arith, c.alone_loads-alone.ensures.each g (omega (arith, lt, c.requires.few)), c.shared_loads-shared.ensures.each g (omega (arith, lt, c.requires.few)))))
