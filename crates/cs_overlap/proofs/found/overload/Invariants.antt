use Rattle.std.proofs.Common.{◌≡◌, None}
use Rattle.std.specs.List.{range_with_len}
use Rattle.cs_theorem.specs.Faults.{first_of}
use Rattle.cs_overlap.specs.Found.{overload_at}
use Rattle.cs_overlap.proofs.found.overload.Given as goal

abbrev pub invariant-loop-minute : goal.invariant-loop-minute
invariant-loop-minute l = first_of (overload_at l.roles l.groups l.capacity l.windows) (range_with_len 0 l.minute) ≡ None
