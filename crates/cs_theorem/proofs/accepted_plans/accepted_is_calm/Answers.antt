use Rattle.cs_theorem.proofs.Calm.{calm}
use Rattle.cs_theorem.proofs.Bounded.{bounded}
use Rattle.cs_theorem.proofs.accepted_plans.accepted_is_calm.Goals as goal

pub returns-clause-calm : goal.returns-clause-calm
returns-clause-calm c p on a n plan by long ok = calm p plan on by a n long ok

pub returns-clause-bounded : goal.returns-clause-bounded
returns-clause-bounded c p on a n plan by long ok = bounded p on by a n long ok
