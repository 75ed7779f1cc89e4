use Rattle.std.proofs.lemmas.Result.{IfOk-weaker}
use Rattle.cs_cli.proofs.check.check_planned.Goals as goal

pub returns : goal.returns
returns g c = IfOk-weaker c.in_format.result _ _ (λ e same digests. (c.in_ok-found.found.0, c.in_ok-found.ensures.answer digests, same)) c.in_format.ensures
