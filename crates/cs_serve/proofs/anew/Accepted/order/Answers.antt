use Rattle.std.proofs.Common.{ℕ, List, ap, refl}
use Rattle.cs_args.specs.declared.request.RunWords.{RunWords}
use Rattle.cs_ruling.specs.declared.answer.Order.{Order}
use Rattle.cs_serve.proofs.anew.Accepted.order.Goals as goal

abbrev with_warnings : Order → RunWords → List ℕ → Order
with_warnings order words warnings = record { checked = order.checked; owners = order.owners; warnings = warnings; declarations = order.declarations; words = words; digests = order.digests }

pub returns : goal.returns
returns c = record {
  words = refl;
  headline = c.is_safe.ensures.headline;
  read = (c.args.self.order, c.args.self.read, ap (with_warnings c.args.self.order c.args.words) c.args.self.told);
}
