use Rattle.std.proofs.Common.{ap, inl, inr}
use Rattle.std.proofs.lemmas.Result.{IfOk-weaker}
use Rattle.cs_files.specs.Response.{Ending}
use Rattle.cs_all.proofs.answer.answer_all.Goals as goal

pub returns : goal.returns
returns g c = IfOk-weaker c.answer_on-answer.result _ _ (λ r is. inr is) c.answer_on-answer.ensures
