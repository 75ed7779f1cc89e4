use Rattle.cs_claims.proofs.Splits.{same_answer}
use Rattle.cs_claims.proofs.stretch.Stretch.is_split_well.Goals as goal

pub returns : goal.returns
returns c = same_answer _ _ 0 1440 c.splits_inside.ensures
