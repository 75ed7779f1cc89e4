use Rattle.std.proofs.Common.{◌≡◌, length}
use Rattle.cs_roster.specs.Roster.{still}
use Rattle.cs_roster.proofs.runs.RunsIterator.next.Given as goal

abbrev pub invariant-loop-run : goal.invariant-loop-run
invariant-loop-run l = still l.self-inside.entries ≡ l.fn.self

abbrev pub decreases-loop-run : goal.decreases-loop-run
decreases-loop-run l = length l.self-inside.entries
