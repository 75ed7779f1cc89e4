use Rattle.std.proofs.Common.{◌≡◌, ◌++◌}
use Rattle.cs_classes.proofs.worked.listed.Given as goal

abbrev pub invariant-loop-minute : goal.invariant-loop-minute
invariant-loop-minute l = l.listed ++ l.minute-iterator ≡ l.minutes
