use Rattle.std.proofs.Common.{inl}
use Rattle.std.proofs.lemmas.Result.{IfOk-weaker}
use Rattle.cs_ask.specs.declared.asking.Refusal.TheVariants.{Untold}
use Rattle.cs_ask.proofs.telling.respond_to.Goals as goal

pub returns-in-Err-Fault : goal.returns-in-Err-Fault
returns-in-Err-Fault g c = IfOk-weaker c.response.result _ _ (λ r is. inl (Untold, is)) c.response.ensures
