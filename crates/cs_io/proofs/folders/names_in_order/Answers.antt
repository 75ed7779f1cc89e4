use Rattle.std.proofs.Common.{◌∙◌, IsPermutation, ap, map, subst, sym}
use Rattle.std.proofs.lemmas.List.Sorted.{IsPermutation-map}
use Rattle.std.specs.Cmp.Lexicographic.{slice_cmp}
use Rattle.std.specs.Ordering.{nat_cmp}
use Rattle.cs_io.specs.Folders.{IsInByteOrder}
use Rattle.cs_io.proofs.OrderLemmas.{keys_in_order}
use Rattle.cs_io.proofs.folders.names_in_order.Goals as goal

pub returns-clause-same : goal.returns-clause-same
returns-clause-same c =
    let sorted = c.sort_unstable.new.self.items in
    let copies = c.in_ok-copied.ensures ∙ ap (map (λ name. name.now)) c.as_slice.ensures.value in
    let moved = IsPermutation-map (λ name. name.now) c.in_ok-names.names.items sorted c.sort_unstable.ensures.permutation in
    subst (λ names. IsPermutation names c.in_ok-copied.field-0) c.in_ok-names.ensures (subst (IsPermutation (map (λ name. name.now) c.in_ok-names.names.items)) (sym copies) moved)

pub returns-clause-order : goal.returns-clause-order
returns-clause-order c =
    let sorted = c.sort_unstable.new.self.items in
    let copies = c.in_ok-copied.ensures ∙ ap (map (λ name. name.now)) c.as_slice.ensures.value in
    subst IsInByteOrder (sym copies) (keys_in_order (λ name. name.now) (slice_cmp nat_cmp) sorted c.sort_unstable.ensures.sorted)
