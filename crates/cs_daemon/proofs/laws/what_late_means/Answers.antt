use Rattle.cs_daemon.proofs.Lateness.{within}
use Rattle.cs_daemon.proofs.laws.what_late_means.Goals as goal

pub returns : goal.returns
returns c = within
