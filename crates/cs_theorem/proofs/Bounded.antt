-- Where the checker accepts, the work of each group with a wait job is bounded.
use Rattle.std.proofs.Common.{ℕ, zero, suc, ◌+◌, ◌-◌, ◌*◌, ◌/◌, ◌%◌, ◌<◌, ◌≤◌, ◌≡◌, Bool, true, false, cond, List, [], ◌∷◌, map, filter, Option, refl, sym, ap, ◌∙◌, subst, arith, if◌then◌else◌, ⊎_elim}
use Rattle.std.specs.Prelude.{unwrap_or, nat_lt}
use Rattle.std.specs.List.{range_with_len, AllByRecursion}
use Rattle.std.proofs.lemmas.Bool.{cases_lt, lt-ltb, le-ltb}
use Rattle.std.proofs.lemmas.List.FromFn.{get_or-map-range_with_len, length-map-range_with_len}
use Rattle.cs_civil.specs.Calendar.{Kind, kind}
use Rattle.cs_history.specs.Lists.{total, below}
use Rattle.cs_history.specs.Plan.{Plan, is_cron, waits, locks, IsReached}
use Rattle.cs_history.specs.Calm.{arrives, HasWaiter, IsBounded}
use Rattle.cs_history.proofs.Lists.{all_map, all_below}
use Rattle.cs_theorem.specs.Certificate.{Certificate}
use Rattle.cs_theorem.specs.Accepted.{reach_in, arrivals, nth, bound_on, IsAccepted, IsByKind, IsLength}
use Rattle.cs_wait.specs.Bounds.{at_days, StepsHold, ClearsBy}
use Rattle.cs_theorem.proofs.Stretches.{on_days, due_tells, map_twice}

filter_step : (q r : ℕ → Bool) (x : ℕ) (xs : List ℕ) → q x ≡ r x → filter q xs ≡ filter r xs → filter q (x ∷ xs) ≡ filter r (x ∷ xs)
filter_step q r x xs e h = ap (λ (b : Bool). cond b (x ∷ filter q xs) (filter q xs)) e ∙ ap (λ (ys : List ℕ). cond (r x) (x ∷ ys) ys) h

filter_same : (q r : ℕ → Bool) (xs : List ℕ) → AllByRecursion (λ x. q x ≡ r x) xs → filter q xs ≡ filter r xs
filter_same q r [] h = refl
filter_same q r (x ∷ xs) h = filter_step q r x xs h.0 (filter_same q r xs h.1)

if_true : {X : Type 0} (b : Bool) (x y : X) → b ≡ true → (if b then x else y) ≡ x
if_true b x y e = ap (λ (c : Bool). if c then x else y) e

if_false : {X : Type 0} (b : Bool) (x y : X) → b ≡ false → (if b then x else y) ≡ y
if_false b x y e = ap (λ (c : Bool). if c then x else y) e

at_day : (f : ℕ → ℕ → ℕ) (first n m : ℕ) → m < 1440 * n → at_days (map f (range_with_len first n)) m ≡ f (first + m / 1440) (m % 1440)
at_day f first zero m lt = absurd (omega (arith, lt))
at_day f first (suc n) m lt =
    ⊎_elim (λ (h : m < 1440).
    let e : first ≡ first + m / 1440 = omega (arith, h) in
    let k : m ≡ m % 1440 = omega (arith, h) in
    if_true (nat_lt m 1440) (f first m) (at_days (map f (range_with_len (first + 1) n)) (m - 1440)) (lt-ltb m 1440 h) ∙ (ap (λ (d : ℕ). f d m) e ∙ ap (f (first + m / 1440)) k))
    (λ (h : 1440 ≤ m).
    let e : (first + 1) + (m - 1440) / 1440 ≡ first + m / 1440 = omega (arith, h) in
    let k : (m - 1440) % 1440 ≡ m % 1440 = omega (arith, h) in
    if_false (nat_lt m 1440) (f first m) (at_days (map f (range_with_len (first + 1) n)) (m - 1440)) (le-ltb m 1440 h)
    ∙ (at_day f (first + 1) n (m - 1440) (omega (arith, lt, h)) ∙ (ap (λ (d : ℕ). f d ((m - 1440) % 1440)) e ∙ ap (f (first + m / 1440)) k)))
    (cases_lt m 1440)

two_days : (x y : ℕ → ℕ) (m : ℕ) → m < 1440 → (m + 1 < 1440 → at_days (x ∷ y ∷ []) (m + 1) ≡ x (m + 1)) × (1440 ≤ m + 1 → at_days (x ∷ y ∷ []) (m + 1) ≡ y 0)
two_days x y m lt = (
  λ h. if_true (nat_lt (m + 1) 1440) (x (m + 1)) (at_days (y ∷ []) ((m + 1) - 1440)) (lt-ltb (m + 1) 1440 h),
  λ h. let e : (m + 1) - 1440 ≡ 0 = omega (arith, lt) in
      if_false (nat_lt (m + 1) 1440) (x (m + 1)) (at_days (y ∷ []) ((m + 1) - 1440)) (le-ltb (m + 1) 1440 h) ∙ ap (at_days (y ∷ [])) e,
)

module _ (p : Plan) (on : ℕ → Kind → ℕ → Bool) (by : IsByKind p on) (a : Certificate) (n : ℕ) (long : IsLength p on (reach_in p a) n) (ok : IsAccepted p on a n) where
  arrivals_are : (g d m : ℕ) → m < 1440 → arrivals p a g (a.class_of (kind d)) m ≡ arrives p g (1440 * d + m)
  arrivals_are g d m lt = ap (total (λ j. if locks p g j then p.limit j else 0))
      (filter_same (λ j. a.due (a.class_of (kind d)) j m) (λ j. p.due j (1440 * d + m)) (below p.crons)
      (all_map (λ j. j < p.crons) (λ j. a.due (a.class_of (kind d)) j m ≡ p.due j (1440 * d + m)) (below p.crons) (λ j l. due_tells p on a n ok by j d m (lt-ltb j p.crons l) lt) (all_below p.crons)))

  bound_at : (g t d m : ℕ) → t / 1440 ≡ d → t % 1440 ≡ m → bound_on a g t ≡ a.bound (a.class_of (kind d)) g m
  bound_at g t d m e f = ap (λ (x : ℕ). a.bound (a.class_of (kind x)) g (t % 1440)) e ∙ ap (a.bound (a.class_of (kind d)) g) f

  falls : (g : ℕ) → HasWaiter p g → (t : ℕ) → IsReached t → (bound_on a g t + arrives p g t) - 1 ≤ bound_on a g (t + 1)
  falls g w t r =
      let d : ℕ = t / 1440 in
      let m : ℕ = t % 1440 in
      let lt : m < 1440 = omega arith in
      let at : 1440 * d + m ≡ t = omega arith in
      let first : ℕ = d + 2 - n in
      let x = on_days p on a n ok (λ s. StepsHold (a.bound (nth s.of (n - 2)) g) (arrivals p a g (nth s.of (n - 2))) (a.bound (nth s.of (n - 1)) g)) (ok.steps g w) first in
      let eve : nth x.0.of (n - 2) ≡ a.class_of (kind d) = ap (λ (s : List ℕ). nth s (n - 2)) x.1 ∙ get_or-map-range_with_len (λ e. a.class_of (kind e)) first n (n - 2) d 0 (omega (arith, long.range.0)) (omega (arith, r.first, long.range.0, long.range.1)) in
      let day : nth x.0.of (n - 1) ≡ a.class_of (kind (d + 1)) = ap (λ (s : List ℕ). nth s (n - 1)) x.1 ∙ get_or-map-range_with_len (λ e. a.class_of (kind e)) first n (n - 1) (d + 1) 0 (omega (arith, long.range.0)) (omega (arith, r.first, long.range.0, long.range.1)) in
      let steps : StepsHold (a.bound (a.class_of (kind d)) g) (arrivals p a g (a.class_of (kind d))) (a.bound (a.class_of (kind (d + 1))) g) =
      subst (λ (k : ℕ). StepsHold (a.bound k g) (arrivals p a g k) (a.bound (a.class_of (kind (d + 1))) g)) eve (subst (λ (k : ℕ). StepsHold (a.bound (nth x.0.of (n - 2)) g) (arrivals p a g (nth x.0.of (n - 2))) (a.bound k g)) day x.2) in
      let now = arrivals_are g d m lt ∙ ap (arrives p g) at in
      let two = two_days (a.bound (a.class_of (kind d)) g) (a.bound (a.class_of (kind (d + 1))) g) m lt in
      ⊎_elim (λ (h : m + 1 < 1440). let e : bound_on a g (t + 1) ≡ a.bound (a.class_of (kind d)) g (m + 1) = bound_at g (t + 1) d (m + 1) (omega (arith, h)) (omega (arith, h)) in omega (arith, steps m lt, now, two.0 h, e))
      (λ (h : 1440 ≤ m + 1). let e : bound_on a g (t + 1) ≡ a.bound (a.class_of (kind (d + 1))) g 0 = bound_at g (t + 1) (d + 1) 0 (omega (arith, h)) (omega (arith, h)) in omega (arith, steps m lt, now, two.1 h, e))
      (cases_lt (m + 1) 1440)

  clears : (g j t : ℕ) → is_cron p j ≡ true → waits p j ≡ true → locks p g j ≡ true → p.due j t ≡ true → (z : ℕ) × (t < z) × (z ≤ t + reach_in p a j) × (bound_on a g z ≡ 0)
  clears g j t cron wait lock due =
      let d : ℕ = t / 1440 in
      let m : ℕ = t % 1440 in
      let lt : m < 1440 = omega arith in
      let at : 1440 * d + m ≡ t = omega arith in
      let c = ok.clears j g cron wait lock in
      let x = on_days p on a n ok (λ s. (m : ℕ) → m < 1440 → a.due (nth s.of 0) j m ≡ true → ClearsBy (map (λ class. a.bound class g) s.of) m c.0) c.2 d in
      let first : nth x.0.of 0 ≡ a.class_of (kind d) = ap (λ (s : List ℕ). nth s 0) x.1 ∙ get_or-map-range_with_len (λ e. a.class_of (kind e)) d n 0 d 0 (omega (arith, long.range.0)) (omega arith) in
      let here : a.due (nth x.0.of 0) j m ≡ true = ap (λ (k : ℕ). a.due k j m) first ∙ (due_tells p on a n ok by j d m cron lt ∙ (ap (p.due j) at ∙ due)) in
      let bs : map (λ class. a.bound class g) x.0.of ≡ map (λ e. a.bound (a.class_of (kind e)) g) (range_with_len d n) = ap (map (λ class. a.bound class g)) x.1 ∙ map_twice (λ class. a.bound class g) (λ e. a.class_of (kind e)) (range_with_len d n) in
      let z = subst (λ (l : List (ℕ → ℕ)). ClearsBy l m c.0) bs (x.2 m lt here) in
      let size = length-map-range_with_len (λ e. a.bound (a.class_of (kind e)) g) d n in
      let r : reach_in p a j ≡ c.0 = ap (λ (o : Option ℕ). unwrap_or o (p.limit j)) c.1 in
      let zero_at : a.bound (a.class_of (kind (d + z.0 / 1440))) g (z.0 % 1440) ≡ 0 = sym (at_day (λ e. a.bound (a.class_of (kind e)) g) d n z.0 (omega (arith, z.3.0, size))) ∙ z.3.1 in
      (1440 * d + z.0, omega (arith, z.1, at), omega (arith, z.2, at, r), bound_at g (1440 * d + z.0) (d + z.0 / 1440) (z.0 % 1440) (omega arith) (omega arith) ∙ zero_at)

  pub bounded : IsBounded p (reach_in p a) (bound_on a)
  bounded g w = record {
    falls = λ t r _. falls g w t r;
    clears = λ j t cron wait lock _ due. let c = clears g j t cron wait lock due in (c.0, c.1, c.2, λ _. c.3);
  }
