use Rattle.cs_daemon.proofs.Shelving.{kept_held, only_read}
use Rattle.cs_daemon.proofs.laws.what_a_store_holds.Goals as goal

pub returns : goal.returns
returns c = record { held = kept_held; untouched = only_read }
