use Rattle.std.proofs.Common.{map}
use Rattle.std.proofs.lemmas.Result.{IfOk-weaker}
use Rattle.cs_all.specs.declared.reading.Read.{Read}
use Rattle.cs_all.specs.declared.told.Told.{Told}
use Rattle.cs_all.proofs.Each.{contents_told}
use Rattle.cs_all.proofs.answer.answer_on.Goals as goal

pub returns : goal.returns
returns g c = IfOk-weaker c.response_of.result _ _ (λ r is. record {
  contents = map (λ (read : Read). read.content) c.args.read.now;
  statuses = map (λ (told : Told). told.status) c.in_ok-all.all.items;
  each = contents_told c.args.read.now c.in_ok-all.all.items c.in_ok-all.ensures;
  worst = is;
}) c.response_of.ensures
