use Rattle.std.proofs.Common.{◌≡◌, drop}
use Rattle.std.specs.Prelude.{position}
use Rattle.cs_decl.specs.Faults.{has_bad_parts}
use Rattle.cs_decl.proofs.Minutes.{first_from}
use Rattle.cs_decl.proofs.parts.first_with_bad_parts.Given as goal

abbrev pub invariant-loop-i : goal.invariant-loop-i
invariant-loop-i l = first_from has_bad_parts l.i (drop l.i l.cron) ≡ position has_bad_parts l.cron
