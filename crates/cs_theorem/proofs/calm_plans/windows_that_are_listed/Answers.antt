use Rattle.cs_theorem.proofs.Listed.{load_within}
use Rattle.cs_theorem.proofs.calm_plans.windows_that_are_listed.Goals as goal

pub returns : goal.returns
returns c p ws all different listed = load_within p ws all different listed
