use Rattle.cs_daemon.proofs.Ticking.{all_written, ran_full, ran_out, turned_back}
use Rattle.cs_daemon.proofs.laws.what_a_tick_says.Goals as goal

pub returns : goal.returns
returns c = record { done = all_written; back = turned_back; full = ran_full; memory = ran_out }
