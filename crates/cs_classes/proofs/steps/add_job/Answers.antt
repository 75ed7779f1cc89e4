use Rattle.std.proofs.Common.{◌≡◌, ◌<◌, ◌≤◌, ◌+◌, ◌^◌, ℕ, List, Bool, true, false, ◌∷◌, [], if◌then◌else◌, length, slice_index, slice_set, refl, sym, ap, ◌∙◌, subst, arith, inl, inr, get_or-set_same, get_or-set_other}
use Rattle.std.proofs.lemmas.Bool.Decides.{eqb_tells}
use Rattle.std.proofs.Math.ListN.{length-set}
use Rattle.cs_claims.specs.Certificate.{is_due_in}
use Rattle.cs_classes.specs.DayMinutes.{AreRisingFrom}
use Rattle.cs_classes.proofs.DayMinutes.{first_is, none_below}
use Rattle.cs_schedule.specs.Numbers.{has}
use Rattle.cs_classes.proofs.steps.add_job.Goals as goal

brings_at_most : (max : ℕ) (due : Bool) → (if due then max else 0) ≤ max
brings_at_most max true = omega arith
brings_at_most max false = omega arith

nothing_left : (left : List ℕ) (max m : ℕ) → left ≡ [] → (if has left m then max else 0) ≡ 0
nothing_left left max m e = ap (λ (ms : List ℕ). if has ms m then max else 0) e

-- what is left and what has arrived, with the first of what is left gone over
next_arrives : (sums left rest : List ℕ) (k max least : ℕ) → length sums ≡ 1440 → left ≡ k ∷ rest → AreRisingFrom least left → (m : ℕ) → m < 1440
    → slice_index (slice_set sums k (slice_index sums k + max)) m + (if has rest m then max else 0) ≡ slice_index sums m + (if has left m then max else 0)
next_arrives sums left rest k max least long e r m lt =
    let s = subst (AreRisingFrom least) e r in
    elim (eqb_tells k m) [
      | inl same ↦
          let inside : k < length sums = omega (arith, s.1, long) in
          rw (e, same.0) (rw (← same.1) (rw (none_below (k + 1) k rest (omega arith) s.2, get_or-set_same sums k (slice_index sums k + max) 0 inside) (omega arith)))
      | inr other ↦ rw (e, other.0) (rw (get_or-set_other sums k m (slice_index sums k + max) 0 (λ q. other.1 (sym q))) refl)
    ]

-- the first of what is left still fits
next_fits : (sums first left rest : List ℕ) (due : ℕ → Bool) (k max : ℕ) → left ≡ k ∷ rest → k < 1440
    → ((m : ℕ) → m < 1440 → slice_index sums m + (if has left m then max else 0) ≡ slice_index first m + (if due m then max else 0))
    → ((m : ℕ) → m < 1440 → slice_index first m + max < 2 ^ 32) → slice_index sums k + max < 2 ^ 32
next_fits sums first left rest due k max e lt same fits =
    let here : has left k ≡ true = first_is left rest k e in
    omega (arith, rw here at (same k lt), brings_at_most max (due k), fits k lt)

pub loop-minute-init : goal.loop-minute-init
loop-minute-init c =
    let same = c.into_iter-minute-iterator.ensures.into_iter_gives ∙ c.iter-minute-items.ensures in (
      c.requires.long,
      (0, subst (λ (ms : List ℕ). AreRisingFrom 0 ms) (sym same) c.due_in_order-minutes.ensures.rising),
      λ m lt. ap (λ (ms : List ℕ). slice_index c.args.arrivals.now m + (if has ms m then c.args.max else 0)) same
          ∙ ap (λ (due : Bool). slice_index c.args.arrivals.now m + (if due then c.args.max else 0)) (c.due_in_order-minutes.ensures.due m lt),
    )

pub add-requires : goal.add-requires
add-requires c =
    let left = c.loop-minute.minute-iterator in
    let rest = c.next.new.self in
    let k = c.in-Some.minute in
    let rising = subst (AreRisingFrom c.loop-minute.invariant.1.0) c.in-Some.ensures.steps c.loop-minute.invariant.1.1 in
    record {
      day = rising.1;
      fits = next_fits c.loop-minute.arrivals c.args.arrivals.now left rest (is_due_in c.args.class.now c.args.number) k c.args.max c.in-Some.ensures.steps rising.1 c.loop-minute.invariant.2 c.requires.fits;
    }

pub loop-minute-preserved : goal.loop-minute-preserved
loop-minute-preserved c =
    let left = c.loop-minute.minute-iterator in
    let rest = c.next.new.self in
    let k = c.in-Some.minute in
    let sums = c.loop-minute.arrivals in
    let i = c.loop-minute.invariant in
    let rising = subst (AreRisingFrom i.1.0) c.in-Some.ensures.steps i.1.1 in (
      ap (λ (s : List ℕ). length s) c.add.ensures ∙ (length-set sums k (slice_index sums k + c.args.max) ∙ i.0),
      (k + 1, rising.2),
      λ m lt. ap (λ (s : List ℕ). slice_index s m + (if has rest m then c.args.max else 0)) c.add.ensures ∙ (next_arrives sums left rest k c.args.max i.1.0 i.0 c.in-Some.ensures.steps i.1.1 m lt ∙ i.2 m lt),
    )

pub returns : goal.returns
returns c =
    let none = c.in-None.ensures.steps.0 in
    record {
      long = c.loop-minute.invariant.0;
      each = λ m lt. omega (arith, c.loop-minute.invariant.2 m lt, nothing_left c.loop-minute.minute-iterator c.args.max m none);
    }
