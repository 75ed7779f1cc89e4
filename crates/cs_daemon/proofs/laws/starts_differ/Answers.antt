use Rattle.cs_history.specs.Journal.{told}
use Rattle.cs_daemon.proofs.Naming.{apart}
use Rattle.cs_daemon.proofs.laws.starts_differ.Goals as goal

pub returns : goal.returns
returns c p base es s owed journal =
    apart p base es s (c.names_differ.ensures.started p (told base es) owed journal.legal) journal
