use Rattle.cs_theorem.proofs.Safety.{safe}
use Rattle.cs_theorem.proofs.calm_plans.calm_plans_are_safe.Goals as goal

pub returns : goal.returns
returns c p reaches b h plan bounded calm legal time = safe p reaches b plan bounded calm h legal time
