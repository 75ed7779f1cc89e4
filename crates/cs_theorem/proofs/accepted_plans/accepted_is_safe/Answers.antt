use Rattle.cs_theorem.proofs.Safety.{safe}
use Rattle.cs_theorem.specs.Accepted.{reach_in, bound_on}
use Rattle.cs_theorem.proofs.Calm.{calm}
use Rattle.cs_theorem.proofs.Bounded.{bounded}
use Rattle.cs_theorem.proofs.accepted_plans.accepted_is_safe.Goals as goal

pub returns : goal.returns
returns c p on a n h plan by long ok legal time = safe p (reach_in p a) (bound_on a) plan (bounded p on by a n long ok) (calm p plan on by a n long ok) h legal time
