use Rattle.std.proofs.Common.{◌≡◌, ◌+◌, length}
use Rattle.std.specs.Prelude.{unsigned_abs}
use Rattle.cs_decl.specs.Faults.{minutes_of}
use Rattle.cs_draft.proofs.parts.is_sum.Given as goal

-- what is left of the sum is for the parts that are left
abbrev pub invariant-loop-rest : goal.invariant-loop-rest
invariant-loop-rest l = l.left + minutes_of l.parts ≡ unsigned_abs l.max + minutes_of l.rest

abbrev pub decreases-loop-rest : goal.decreases-loop-rest
decreases-loop-rest l = length l.rest
