use Rattle.std.proofs.Common.{◌∙◌, sym}
use Rattle.cs_judge.proofs.Called.{called_if_found}
use Rattle.cs_judge.proofs.calling.is_called_safe.Goals as goal

pub returns : goal.returns
returns g c = λ some. called_if_found c.args.plan.now c.in_ok-found.found c.in_ok-found.ensures (sym c.is_some.ensures ∙ some)
