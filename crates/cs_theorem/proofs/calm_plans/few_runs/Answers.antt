use Rattle.cs_theorem.proofs.Safety.{few_runs}
use Rattle.cs_theorem.proofs.calm_plans.few_runs.Goals as goal

pub returns : goal.returns
returns c p reaches b h plan bounded calm legal time = few_runs p reaches b plan bounded calm h legal time
