use Rattle.cs_keep.proofs.Choosing.{done}
use Rattle.cs_keep.proofs.laws.choices_run_out.Goals as goal

pub returns : goal.returns
returns c k p s = (done k p s).none
