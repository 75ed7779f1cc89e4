use Rattle.cs_history.proofs.Journals.{journal_grows}
use Rattle.cs_history.proofs.laws.journals_grow.Goals as goal

pub returns : goal.returns
returns c p base es old new e r journal step = journal_grows p base es old new e r journal step
