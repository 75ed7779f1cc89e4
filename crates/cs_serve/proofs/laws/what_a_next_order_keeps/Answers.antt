use Rattle.cs_serve.proofs.Service.{next_journal}
use Rattle.cs_serve.proofs.laws.what_a_next_order_keeps.Goals as goal

pub returns : goal.returns
returns c = next_journal
