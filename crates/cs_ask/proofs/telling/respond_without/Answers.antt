use Rattle.std.proofs.Common.{inl}
use Rattle.std.proofs.lemmas.Result.{IfOk-weaker}
use Rattle.cs_ask.proofs.telling.respond_without.Goals as goal

pub returns : goal.returns
returns g c = IfOk-weaker c.response.result _ _ (λ r is. inl (c.args.refusal, is)) c.response.ensures
