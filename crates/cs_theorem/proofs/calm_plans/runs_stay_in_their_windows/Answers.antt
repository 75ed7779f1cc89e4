use Rattle.cs_theorem.proofs.Runs.{runs_in_windows}
use Rattle.cs_theorem.proofs.calm_plans.runs_stay_in_their_windows.Goals as goal

pub returns : goal.returns
returns c p reaches b h plan bounded legal time = runs_in_windows p reaches b plan bounded h legal time
