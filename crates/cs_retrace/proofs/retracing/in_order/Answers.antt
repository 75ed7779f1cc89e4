use Rattle.std.proofs.Common.{◌≡◌, rules}
use Rattle.std.proofs.lemmas.Fn.{always_returns_same}
use Rattle.cs_retrace.specs.Order.{IsInOrder, place_of}
use Rattle.cs_retrace.proofs.retracing.in_order.Goals as goal

pub returns : goal.returns
unfolding IsInOrder
returns c = (c.sort_by_key.ensures.permutation, c.in_ok-sort_by_key.ensures.sorted place_of (always_returns_same _ (λ a r. r ≡ place_of a.0.now) _ (λ a r q k. search rules)))
