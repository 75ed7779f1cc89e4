use Rattle.std.proofs.Common.{arith, ◌+◌, ◌<◌, ◌≤◌, ◌≡◌, ◌∙◌, ap, ℕ, slice_index, slice_set, ⊎_elim, nat_le, true, false, length}
use Rattle.std.proofs.lemmas.Bool.Decides.{leb_tells}
use Rattle.std.proofs.lemmas.List.{get_or-set_same, get_or-set_other, length-set}
use Rattle.cs_overlap.specs.Sums.{up_to}
use Rattle.cs_overlap.proofs.TallyLemmas.{up_to_more}
use Rattle.cs_overlap.proofs.table.running.Goals as goal

pub overflow_sub-open : goal.overflow_sub-open
overflow_sub-open c =
    let m = c.loop-minute.minute in
    omega (arith, c.requires.order m c.loop-minute-test.true, c.loop-minute.invariant.open_now, up_to_more c.args.begun.now m, up_to_more c.args.ended.now m, c.from.ensures, c.from-in-loop-minute.ensures)

pub loop-minute-preserved : goal.loop-minute-preserved
loop-minute-preserved c =
    let m = c.loop-minute.minute in
    let b = up_to_more c.args.begun.now m in
    let e = up_to_more c.args.ended.now m in
    let i = c.loop-minute.invariant in
    let order = c.requires.order m c.loop-minute-test.true in
    let inside : m < length c.loop-minute.table = omega (arith, i.long, c.loop-minute-test.true) in
    record {
      long = length-set c.loop-minute.table m c.min.result ∙ i.long;
      open_now = omega (arith, b, e, i.open_now, order, c.from.ensures, c.from-in-loop-minute.ensures);
      small = omega (arith, i.small, c.type_inv.begun m, c.from.ensures);
      so_far = λ k n lt is. ⊎_elim
          (λ (t : (nat_le m k ≡ true) × (m ≤ k)).
          let at : k ≡ m = omega (arith, t.1, lt) in
          omega (
            arith,
            ap (λ (j : ℕ). slice_index (slice_set c.loop-minute.table m c.min.result) j) at,
            get_or-set_same c.loop-minute.table m c.min.result 0 inside,
            c.min.ensures,
            c.from-in-loop-minute-2.ensures,
            c.from.ensures,
            c.from-in-loop-minute.ensures,
            b,
            e,
            i.open_now,
            is,
            ap (λ (j : ℕ). up_to c.args.begun.now (j + 1)) at,
            ap (λ (j : ℕ). up_to c.args.ended.now (j + 1)) at,
          ))
          (λ (t : (nat_le m k ≡ false) × (k < m)).
          omega (arith, get_or-set_other c.loop-minute.table m k c.min.result 0 (λ q. omega (arith, q, t.1)), i.so_far k n t.1 is))
          (leb_tells m k);
    }
