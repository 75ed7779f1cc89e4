use Rattle.cs_locks.proofs.Counts.{none_counted}
use Rattle.cs_locks.proofs.table.LockTable.new.Goals as goal

pub returns : goal.returns
returns c = none_counted
