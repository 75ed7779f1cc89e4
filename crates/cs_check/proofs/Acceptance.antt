-- If the first two rules hold, each stretch in use is good and each waiting job has a reach, no
-- fault is found.
use Rattle.std.proofs.Common.{◌≡◌, ℕ, ◌-◌, ◌<◌, ◌≤◌, Bool, true, false, cond, List, [], ◌∷◌, filter, map, Option, None, All, refl, ap, subst, arith}
use Rattle.std.specs.Prelude.{unwrap_or}
use Rattle.std.specs.List.{AllByRecursion}
use Rattle.std.proofs.lemmas.Bool.{ltb-true}
use Rattle.cs_civil.specs.Calendar.{Kind}
use Rattle.cs_history.specs.Plan.{Plan, IsPlan}
use Rattle.cs_history.proofs.Lists.{all_map}
use Rattle.cs_theorem.proofs.Locks.{group_of}
use Rattle.cs_wait.specs.Bounds.{ClearsBy, StepsHold}
use Rattle.cs_theorem.specs.Certificate.{Certificate, Stretch}
use Rattle.cs_theorem.specs.Accepted.{AreApart, AreFree, AreWithin, InEach, IsCovered, IsUsed, arrivals, nth, windows_of}
use Rattle.cs_theorem.specs.Faults.{due_fault, first_fault, is_used, stretch_fault, used_stretches}
use Rattle.cs_theorem.proofs.Chains.{tells_used}
use Rattle.cs_theorem.proofs.Points.{says_all, says_one, says_two, waiter_to}
use Rattle.cs_check.proofs.Clearing.{tells_on}
use Rattle.cs_check.specs.Stretches.{AreGood, AreStretches, HaveReaches, IsCase, IsGood}
use Rattle.std.proofs.lemmas.List.Elements.{All-head, All-tail}
use Rattle.cs_classes.specs.Said.{said}
use Rattle.cs_classes.specs.Used.{seen}
use Rattle.cs_classes.specs.declared.used.UsedStretch.{UsedStretch}
use Rattle.cs_classes.specs.Claim.{as_certificate}
use Rattle.cs_plan.specs.Plan.{as_plan}
use Rattle.cs_classes.specs.Planned.{due_on}
use Rattle.cs_check.specs.Case.{claim_fault}
use Rattle.cs_check.specs.declared.case.Case.{Case}
use Rattle.cs_check.proofs.Using.{days_range}

unfilter : {X : Type 0} (t : X → Bool) (P : X → Type 0) (xs : List X) → AllByRecursion P (filter t xs) → AllByRecursion (λ x. t x ≡ true → P x) xs
unfilter t P [] h = tt
unfilter {X} t P (x ∷ xs) h = step (t x) refl (unfilter t P xs) h
  where
    step : (b : Bool) → t x ≡ b → (AllByRecursion P (filter t xs) → AllByRecursion (λ y. t y ≡ true → P y) xs) → AllByRecursion P (cond b (x ∷ filter t xs) (filter t xs)) → (b ≡ true → P x) × AllByRecursion (λ y. t y ≡ true → P y) xs
    step true e rest h = (λ _. h.0, rest h.1)
    step false e rest h = (λ q. absurd (cc), rest h)

module _ (p : Plan) (plan : IsPlan p) (on : ℕ → Kind → ℕ → Bool) (a : Certificate) (n : ℕ) (some : 1 ≤ n) (good : AllByRecursion (IsGood p a n) (used_stretches a n)) where
  in_each : (P : Stretch → Type 0) → ((s : Stretch) → IsGood p a n s → P s) → InEach a n P
  in_each P f = all_map (λ s. is_used a n s.of ≡ true → IsGood p a n s) (λ s. IsUsed a n s.of → P s) a.stretches (λ s h u. f s (h ((tells_used a n s.of some).1 u))) (unfilter (λ s. is_used a n s.of) (IsGood p a n) a.stretches good)

  pub good_is_none : due_fault p on a ≡ None → stretch_fault a n ≡ None → HaveReaches p a → first_fault p on a n ≡ None
  good_is_none one two reaches = (says_all p plan on a n some).1 (record {
    due = (says_one p plan on a n some).0 one;
    listed = (says_two p plan on a n some).0 two;
    steps = λ g w. let k = waiter_to p plan on a n some g w in in_each (λ s. StepsHold (a.bound (nth s.of (n - 2)) g) (arrivals p a g (nth s.of (n - 2))) (a.bound (nth s.of (n - 1)) g)) (λ s is. is.steps g k.1 k.0);
    clears = λ j g cron wait lock.
        let r = reaches j (ltb-true j p.crons cron) wait in (
          r.0,
          r.1,
          in_each (λ s. (m : ℕ) → m < 1440 → a.due (nth s.of 0) j m ≡ true → ClearsBy (map (λ class. a.bound class g) s.of) m r.0)
              (λ s is. subst (λ (k : ℕ). (m : ℕ) → m < 1440 → a.due (nth s.of 0) j m ≡ true → ClearsBy (map (λ class. a.bound class k) s.of) m r.0) (ap (λ (o : Option ℕ). unwrap_or o 0) (group_of p g j lock)) ((tells_on p plan a j r.0 s).0 (is.reaches j (ltb-true j p.crons cron) r.0 wait r.1))),
        );
    covered = in_each (IsCovered p a) (λ s is. is.leaves);
    apart = in_each (λ s. AreApart p (windows_of p a s.of)) (λ s is. is.collisions);
    within = in_each (λ s. AreWithin p n (windows_of p a s.of)) (λ s is. is.capacity);
    free = in_each (λ s. AreFree p (windows_of p a s.of)) (λ s is. is.skips);
  })

recursion_from : (P : Stretch → Type 0) (see : UsedStretch → Stretch) (us : List UsedStretch) → All (λ u. P (see u)) us → AllByRecursion P (map see us)
recursion_from P see [] h = tt
recursion_from P see (u ∷ us) h = (All-head (λ (v : UsedStretch). P (see v)) u us h, recursion_from P see us (All-tail (λ (v : UsedStretch). P (see v)) u us h))

pub quiet_is_none : (k : Case) (us : List UsedStretch) → IsCase k → AreStretches k us → AreGood k us → HaveReaches (as_plan k.plan.now) (as_certificate (said k.claim.now)) → claim_fault k.plan.now (said k.claim.now) ≡ None
unfolding claim_fault
quiet_is_none k us is listed good reaches =
    let d = k.plan.now in
    let c = said k.claim.now in
    subst (λ (n : ℕ). first_fault (as_plan d) (due_on d) (as_certificate c) n ≡ None) is.long
    (good_is_none (as_plan d) is.fit.plan (due_on d) (as_certificate c) k.days (omega (arith, (days_range k is).0))
    (subst (AllByRecursion (IsGood (as_plan d) (as_certificate c) k.days)) listed.listed (recursion_from (IsGood (as_plan d) (as_certificate c) k.days) seen us good)) is.due listed.complete reaches)
