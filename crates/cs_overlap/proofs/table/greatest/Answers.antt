use Rattle.std.proofs.Common.{refl, List, ℕ, ◌+◌, ◌≡◌, ◌≤◌, ◌<◌, ⊎_elim, true, false, ap, ◌∙◌, sym, get_or, max, slice_index, nat_le, nat_lt, arith}
use Rattle.std.proofs.lemmas.Bool.{and_parts, and_from, both_ways, leb-true, ltb-true, le-leb, lt-ltb}
use Rattle.std.proofs.lemmas.Bool.Decides.{leb_tells}
use Rattle.cs_windows.specs.declared.window.Window.{Window}
use Rattle.cs_windows.specs.Window.{touches}
use Rattle.cs_overlap.specs.declared.role.Role.{Role}
use Rattle.cs_overlap.specs.Sums.{HoldsFrom, amount_in, amount_of}
use Rattle.cs_overlap.proofs.HolderLemmas.{none, greatest_step}
use Rattle.cs_overlap.proofs.TallyLemmas.{none_at}
use Rattle.cs_overlap.proofs.table.greatest.Goals as goal

risen : (old new : List ℕ) (first end number : ℕ) → ((m : ℕ) → first ≤ m → m < end → slice_index new m ≡ max (slice_index old m) number)
    → ((m : ℕ) → (first ≤ m → m < end → ⊥) → slice_index new m ≡ slice_index old m) → (m : ℕ) → slice_index old m ≤ slice_index new m
risen old new first end number held other m = ⊎_elim
    (λ (t : (nat_le first m ≡ true) × (first ≤ m)). ⊎_elim (λ (u : (nat_le end m ≡ true) × (end ≤ m)). omega (arith, other m (λ a b. omega (arith, b, u.1)))) (λ (u : (nat_le end m ≡ false) × (m < end)). omega (arith, held m t.1 u.1)) (leb_tells end m))
    (λ (t : (nat_le first m ≡ false) × (m < first)). omega (arith, other m (λ a b. omega (arith, a, t.1))))
    (leb_tells first m)

pub loop-window-init : goal.loop-window-init
loop-window-init c = record {
  long = refl;
  since_long = refl;
  until_long = refl;
  most = none;
  known = λ k m a b. absurd (omega (arith, b, none_at 256 k));
}

pub loop-window-preserved : goal.loop-window-preserved
loop-window-preserved c =
    let i = c.loop-window.window-index in
    let ws : List Window = c.args.windows.now in
    let d : Window = record { job = 0; day_back = 0; from = 0; reach = 0 } in
    let w : Window = get_or ws i d in
    let f = amount_in c.args.roles.now c.args.amount in
    let old : List ℕ = c.loop-window.table in
    let new : List ℕ = c.raise.new.table in
    let first : ℕ = c.minutes_held-first.result.0 in
    let end : ℕ = c.minutes_held-first.result.1 in
    let number : ℕ = c.amount_of-number.result in
    let is : number ≡ f w = c.amount_of-number.ensures ∙ ap (λ (r : Role). amount_of c.args.amount r) c.role_of.ensures in
    let spans : HoldsFrom w first end = c.minutes_held-first.ensures.held in
    let risen_here : (m : ℕ) → slice_index old m ≤ slice_index new m = risen old new first end number c.raise.ensures.held c.raise.ensures.other in
    record {
      long = c.raise.ensures.long ∙ c.loop-window.invariant.long;
      since_long = c.note.ensures.long.0;
      until_long = c.note.ensures.long.1;
      most = greatest_step f ws i d c.loop-window-test.true old new c.loop-window.invariant.most
          (λ m l t. let p = and_parts (nat_le first m) (nat_lt m end) (sym (spans m l) ∙ t) in omega (arith, c.raise.ensures.held m (leb-true first m p.0) (ltb-true m end p.1), is))
          (λ m l t. c.raise.ensures.other m (λ a b. both_ways (touches w m (m + 1)) t (spans m l ∙ and_from (nat_le first m) (nat_lt m end) (le-leb first m a) (lt-ltb m end b))));
      known = λ k m a b. ⊎_elim
          (λ (h : (slice_index c.loop-window.since k ≤ m) × (m < slice_index c.loop-window.until k)). omega (arith, c.loop-window.invariant.known k m h.0 h.1, risen_here m))
          (λ (h : (k ≡ number) × (first ≤ m) × (m < end)). omega (arith, h.0, c.raise.ensures.held m h.1 h.2))
          (c.note.ensures.noted k m a b);
    }
