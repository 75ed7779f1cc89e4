use Rattle.std.proofs.Common.{inl, inr}
use Rattle.std.proofs.lemmas.Result.{IfOk-weaker}
use Rattle.cs_ask.specs.declared.asking.Refusal.TheVariants.{NoDaemon}
use Rattle.cs_ask.specs.declared.telling.Health.TheVariants.{Gone}
use Rattle.cs_ask.proofs.telling.respond_after.Goals as goal

pub returns-in-Err-Fault : goal.returns-in-Err-Fault
returns-in-Err-Fault g c = IfOk-weaker c.response.result _ _ (λ r is. inl (NoDaemon, is)) c.response.ensures

pub returns : goal.returns
returns g c = IfOk-weaker c.told_response.result _ _ (λ r is. inr (Gone, _, is)) c.told_response.ensures
