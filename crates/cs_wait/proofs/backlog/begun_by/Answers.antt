use Rattle.std.proofs.Common.{rules, ◌≡◌, ℕ, ◌<◌, true, false, take, get_or, nat_le, arith, ap, ◌∙◌, inl, inr}
use borrow.Author.Tests.{tests}
use Rattle.std.specs.List.Sorted.{IsPartitionPoint}
use Rattle.std.proofs.lemmas.Bool.{both_ways, cases_lt, le-leb, leb-true}
use Rattle.std.proofs.lemmas.List.{get_or-take, length-take}
use Rattle.std.proofs.lemmas.List.Sorted.{IsPartitionedBy-leb, IsPartitionPoint-from_clause}
use Rattle.cs_wait.specs.declared.backlog.Piece.{Piece}
use Rattle.cs_wait.proofs.Pieces.{begun_decide, rising}
use Rattle.cs_wait.proofs.backlog.begun_by.Goals as goal

later : (a b : ℕ) → nat_le a b ≡ false → b < a
later a b e =
    elim (cases_lt b a) [
      | inl lt ↦ lt
      | inr le ↦ absurd (both_ways (nat_le a b) e (le-leb a b le))
    ]

point : (c : goal.After-partition_point) → IsPartitionPoint (λ (y : Piece). nat_le y.minute c.args.minute ≡ true) (λ (y : Piece). nat_le y.minute c.args.minute ≡ false) c.args.list.now c.partition_point.result
point c =
    IsPartitionPoint-from_clause (λ (y : Piece). nat_le y.minute c.args.minute) c.args.list.now c.partition_point.result c.partition_point.ensures.partitioned (IsPartitionedBy-leb (λ (y : Piece). y.minute) c.args.list.now c.args.minute (rising 0 c.args.list.now c.requires)) (λ a r q k. search (rules, tests))

pub returns-clause-begun : goal.returns-clause-begun
returns-clause-begun c = λ k d lt.
    let n = c.partition_point.result in
    let list = c.args.list.now in
    let within : k < n = omega (arith, lt, length-take n list) in
    leb-true (get_or (take n list) k d).minute c.args.minute (ap (λ (p : Piece). nat_le p.minute c.args.minute) (get_or-take n list k d within) ∙ (point c).0 k d (omega arith) within)

pub returns-clause-same : goal.returns-clause-same
returns-clause-same c = begun_decide c.args.minute c.partition_point.result 0 c.args.list.now c.requires (λ k d le lt. later (get_or c.args.list.now k d).minute c.args.minute ((point c).1 k d le lt))
