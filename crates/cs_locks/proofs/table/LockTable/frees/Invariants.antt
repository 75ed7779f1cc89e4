use Rattle.std.proofs.Common.{◌≡◌, ℕ, ◌<◌, false}
use Rattle.cs_locks.specs.Locks.{frees_in}
use Rattle.cs_locks.proofs.table.LockTable.frees.Given as goal

abbrev pub invariant-loop-group : goal.invariant-loop-group
invariant-loop-group l = (g : ℕ) → g < l.group → frees_in l.self l.waiting g ≡ false
