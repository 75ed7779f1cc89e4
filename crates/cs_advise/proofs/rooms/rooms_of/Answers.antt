use Rattle.std.proofs.Common.{rules, map, subst}
use Rattle.std.specs.List.Sorted.{IsPermutation}
use Rattle.std.proofs.lemmas.List.Sorted.{All-permutation, IsNonDecreasingBy-from_sort_by_key, IsPermutation-map}
use Rattle.cs_advise.specs.Room.{IsRoom, slack}
use Rattle.cs_advise.specs.declared.room.Room.{Room}
use Rattle.cs_advise.proofs.rooms.rooms_of.Goals as goal

pub returns : goal.returns
returns g c = record {
  jobs = subst (λ numbers. IsPermutation numbers (map (λ (room : Room). room.job) c.sort_by_key.new.self.items))
      c.in_ok-rooms.ensures.jobs (IsPermutation-map (λ (room : Room). room.job) _ _ c.sort_by_key.ensures.permutation);
  each = All-permutation (IsRoom c.args.plan.now) _ _ c.sort_by_key.ensures.permutation c.in_ok-rooms.ensures.each;
  order = IsNonDecreasingBy-from_sort_by_key slack _ c.in_ok-sort_by_key.ensures.sorted (λ a r q k. search rules);
}
