use Rattle.cs_serve.proofs.Service.{served_journal}
use Rattle.cs_serve.proofs.laws.what_a_served_order_keeps.Goals as goal

pub returns : goal.returns
returns c = served_journal
