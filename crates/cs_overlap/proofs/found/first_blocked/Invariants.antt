use Rattle.std.proofs.Common.{◌≡◌, drop}
use Rattle.cs_theorem.specs.Faults.{first_of}
use Rattle.cs_overlap.specs.Found.{blocked_of}
use Rattle.cs_overlap.proofs.found.first_blocked.Given as goal

abbrev pub invariant-loop-skip : goal.invariant-loop-skip
invariant-loop-skip l = first_of (blocked_of l.roles l.minute l.held) (drop l.skip-index l.held) ≡ first_of (blocked_of l.roles l.minute l.held) l.held
