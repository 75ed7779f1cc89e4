use Rattle.cs_daemon.proofs.Ticking.{arrives, rounds}
use Rattle.cs_daemon.proofs.laws.what_a_round_says.Goals as goal

pub returns : goal.returns
returns c = record { ends = rounds; now = arrives }
