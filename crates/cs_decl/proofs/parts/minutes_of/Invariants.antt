use Rattle.std.proofs.Common.{◌≡◌, ◌≤◌, ◌*◌, take}
use Rattle.cs_plan.specs.declared.limits.TheConstants.{MAX_MINUTES}
use Rattle.cs_decl.specs.Faults.{minutes_of}
use Rattle.cs_decl.proofs.parts.minutes_of.Given as goal

abbrev pub invariant-loop-i : goal.invariant-loop-i
invariant-loop-i l = (l.minutes ≡ minutes_of (take l.i l.parts)) × (l.minutes ≤ l.i * MAX_MINUTES)
