use Rattle.std.proofs.lemmas.Result.{IfOk-weaker}
use Rattle.cs_cli.proofs.check.check_in_format.Goals as goal

pub returns : goal.returns
returns g c = IfOk-weaker c.check_planned-answer.result _ _ (λ e is. is c.args.claimed.digests) c.check_planned-answer.ensures
