use Rattle.std.proofs.Common.{◌≡◌, None}
use Rattle.std.specs.List.{range_with_len}
use Rattle.cs_theorem.specs.Faults.{first_of}
use Rattle.cs_theorem.specs.Windows.{holders}
use Rattle.cs_overlap.specs.Found.{collision_of}
use Rattle.cs_overlap.proofs.found.collision_at.Given as goal

abbrev pub invariant-loop-group : goal.invariant-loop-group
invariant-loop-group l = first_of (collision_of l.roles l.minute (holders l.minute l.windows)) (range_with_len 0 l.group) ≡ None
