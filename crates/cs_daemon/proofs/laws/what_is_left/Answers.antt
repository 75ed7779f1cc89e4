use Rattle.cs_daemon.proofs.Resting.{left_now, nothing_runs}
use Rattle.cs_daemon.proofs.laws.what_is_left.Goals as goal

pub returns : goal.returns
returns c = record { runs = nothing_runs; now = left_now }
