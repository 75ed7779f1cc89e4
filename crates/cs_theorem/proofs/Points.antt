-- No fault of a rule is found exactly if the rule holds.
use Rattle.std.proofs.Common.{ℕ, ◌+◌, ◌-◌, ◌*◌, ◌<◌, ◌≤◌, ◌≡◌, ◌==◌, ◌&&◌, ◌||◌, not, Bool, true, false, List, [], ◌∷◌, map, find, option_map, length, Contains, Option, Some, None, refl, sym, ap, ◌∙◌, subst, arith}
use Rattle.std.specs.Prelude.{nat_le, nat_lt, unwrap_or}
use Rattle.std.specs.List.{AllByRecursion, list_any, list_all, range_with_len}
use Rattle.std.proofs.lemmas.Bool.{and_parts, and_from, and_right, both_ways, eqb-true, eq-eqb, ltb-true, lt-ltb, leb-true, le-leb, not-false, not_from_true, false_from_ne_true}
use Rattle.cs_civil.specs.Calendar.{Kind, IsKind}
use Rattle.cs_civil.specs.Order.{all_kinds}
use Rattle.cs_history.specs.Lists.{EachPair, below}
use Rattle.cs_history.specs.Plan.{Plan, is_cron, takes_lock, waits, locks, belongs, is_group, in_group_of, exclusive_group, rivals, IsPlan}
use Rattle.cs_history.specs.Calm.{load, HasWaiter}
use Rattle.cs_history.proofs.Lists.{all_map, pairs_map, all_any}
use Rattle.cs_theorem.proofs.Locks.{group_of, locks_of, waits_takes}
use Rattle.cs_windows.specs.declared.window.Window.{Window}
use Rattle.cs_windows.specs.Windows.{day_minutes}
use Rattle.cs_theorem.specs.Windows.{holders}
use Rattle.cs_theorem.specs.Certificate.{Certificate, Stretch}
use Rattle.cs_windows.specs.Entries.{lists}
use Rattle.cs_windows.specs.Tree.{Tree, entries_at}
use Rattle.cs_theorem.specs.Accepted.{windows_of, arrivals, nth, clash, blocks, run_in, IsChain, IsUsed, InEach, ListsAll, IsCovered, AreApart, AreWithin, AreFree, IsAccepted}
use Rattle.cs_wait.specs.Bounds.{at_days, StepsHold, ClearsBy}
use Rattle.cs_theorem.specs.Faults.{Fault, ClassNotDue, Missing, BacklogRises, ReachTooShort, WindowMissing, Collision, OverCapacity, SkipBlocked, or_else, first_of, first_pair, unless, same_bool, same_list, chains, is_used, used_stretches, minute_of, is_due_alike, due_fault, stretch_fault, has_waiter, steps_at, rise_in, step_fault, clears_by, reaches_far, reach_fault, missing_in, leaf_fault, collision_in, collision_fault, overload_in, capacity_fault, blocked_in, skip_fault, first_fault}
use Rattle.cs_windows.proofs.Members.{Has, has_contains, contains_has, has_range, range_has}
use Rattle.cs_theorem.proofs.Elements.{has_map, map_has, all_has, any_has}
use Rattle.cs_theorem.proofs.Below.{below_range}
use Rattle.cs_theorem.proofs.Chains.{kind_listed, listed_kind, chain_listed, listed_chain, same_list_is, is_same_list, tells_used}
use Rattle.cs_theorem.proofs.Says.{Says, Tells, says_to, tells_to, says_or, says_unless, says_map, says_first, says_find, says_pair, says_passing, all_from_has, says_minutes, says_below, tells_minutes, tells_below, has_any, tells_if, tells_passing, all_swap, pairs_swap}

tells_same : (x y : Bool) → Tells (same_bool x y) (x ≡ y)
tells_same true y = (λ e. sym e, λ e. sym e)
tells_same false true = (λ e. e, λ e. e)
tells_same false false = (λ e. refl, λ e. refl)

below_has : (n j : ℕ) → j < n → Has (below n) j
below_has n j l = subst (λ (xs : List ℕ). Has xs j) (sym (below_range n)) (has_range 0 n j (omega arith) (omega (arith, l)))

has_below_lt : (n j : ℕ) → Has (below n) j → j < n
has_below_lt n j h = let r = range_has 0 n j (subst (λ (xs : List ℕ). Has xs j) (below_range n) h) in omega (arith, r.1)

pub tells_le : (x y : ℕ) → Tells (nat_le x y) (x ≤ y)
tells_le x y = (leb-true x y, le-leb x y)

module _ (p : Plan) (plan : IsPlan p) (on : ℕ → Kind → ℕ → Bool) (a : Certificate) (n : ℕ) (some : 1 ≤ n) where
  -- in each stretch that is used
  pub says_each : (f : Stretch → Option Fault) (P : Stretch → Type 0) → ((s : Stretch) → Says (f s) (P s)) → Says (first_of f (used_stretches a n)) (InEach a n P)
  says_each f P s = says_to (first_of f (used_stretches a n)) (AllByRecursion (λ s. is_used a n s.of ≡ true → P s) a.stretches) (InEach a n P) (says_passing f (λ s. is_used a n s.of) P s a.stretches)
      (all_map (λ s. is_used a n s.of ≡ true → P s) (λ s. IsUsed a n s.of → P s) a.stretches (λ s h u. h ((tells_used a n s.of some).1 u)))
      (all_map (λ s. IsUsed a n s.of → P s) (λ s. is_used a n s.of ≡ true → P s) a.stretches (λ s h e. h ((tells_used a n s.of some).0 e)))

  pub tells_each : (t : Stretch → Bool) (P : Stretch → Type 0) → ((s : Stretch) → Tells (t s) (P s)) → Tells (list_all t (used_stretches a n)) (InEach a n P)
  tells_each t P s = tells_to (list_all t (used_stretches a n)) (AllByRecursion (λ s. is_used a n s.of ≡ true → P s) a.stretches) (InEach a n P) (tells_passing (λ s. is_used a n s.of) t P s a.stretches)
      (all_map (λ s. is_used a n s.of ≡ true → P s) (λ s. IsUsed a n s.of → P s) a.stretches (λ s h u. h ((tells_used a n s.of some).1 u)))
      (all_map (λ s. IsUsed a n s.of → P s) (λ s. is_used a n s.of ≡ true → P s) a.stretches (λ s h e. h ((tells_used a n s.of some).0 e)))

  abbrev pub Due : Type 0
  Due = (k : Kind) → IsKind k → (j m : ℕ) → is_cron p j ≡ true → m < 1440 → a.due (a.class_of k) j m ≡ on j k m

  pub says_one : Says (due_fault p on a) Due
  says_one = says_to (due_fault p on a) (AllByRecursion (λ k. (j : ℕ) → j < p.crons → (m : ℕ) → m < 1440 → a.due (a.class_of k) j m ≡ on j k m) all_kinds) Due
      (says_first (λ k. unless (is_due_alike p on a k) (ClassNotDue k)) (λ k. (j : ℕ) → j < p.crons → (m : ℕ) → m < 1440 → a.due (a.class_of k) j m ≡ on j k m)
      (λ k. says_unless (is_due_alike p on a k) (ClassNotDue k) ((j : ℕ) → j < p.crons → (m : ℕ) → m < 1440 → a.due (a.class_of k) j m ≡ on j k m)
      (tells_below (λ j. list_all (λ m. same_bool (a.due (a.class_of k) j m) (on j k m)) day_minutes) (λ j. (m : ℕ) → m < 1440 → a.due (a.class_of k) j m ≡ on j k m) p.crons
      (λ j. tells_minutes (λ m. same_bool (a.due (a.class_of k) j m) (on j k m)) (λ m. a.due (a.class_of k) j m ≡ on j k m) (λ m. tells_same (a.due (a.class_of k) j m) (on j k m))))) all_kinds)
      (λ h k is j m cron lt. all_has (λ k. (j : ℕ) → j < p.crons → (m : ℕ) → m < 1440 → a.due (a.class_of k) j m ≡ on j k m) all_kinds k h (kind_listed k is) j (ltb-true j p.crons cron) m lt)
      (λ h. all_from_has (λ k. (j : ℕ) → j < p.crons → (m : ℕ) → m < 1440 → a.due (a.class_of k) j m ≡ on j k m) all_kinds (λ k has j l m lt. h k (listed_kind k has) j m (lt-ltb j p.crons l) lt))

  abbrev pub Listed : Type 0
  Listed = (ks : List Kind) → IsChain ks → length ks ≡ n → Contains (map (λ s. s.of) a.stretches) (map a.class_of ks)

  tells_listed : (ks : List Kind) → Tells (list_any (λ (s : Stretch). same_list s.of (map a.class_of ks)) a.stretches) (Contains (map (λ (s : Stretch). s.of) a.stretches) (map a.class_of ks))
  tells_listed ks = (
    λ e. let h = has_any (λ (s : Stretch). same_list s.of (map a.class_of ks)) a.stretches e in
        has_contains (map (λ (s : Stretch). s.of) a.stretches) (map a.class_of ks) (subst (Has (map (λ (s : Stretch). s.of) a.stretches)) (same_list_is h.0.of (map a.class_of ks) h.2) (has_map (λ (s : Stretch). s.of) a.stretches h.0 h.1)),
    λ c. let h = map_has (λ (s : Stretch). s.of) a.stretches (map a.class_of ks) (contains_has (map (λ (s : Stretch). s.of) a.stretches) (map a.class_of ks) c) in
        any_has (λ (s : Stretch). same_list s.of (map a.class_of ks)) a.stretches h.0 h.1 (is_same_list h.0.of (map a.class_of ks) h.2),
  )

  pub says_two : Says (stretch_fault a n) Listed
  says_two = says_to (stretch_fault a n) (AllByRecursion (λ ks. Contains (map (λ (s : Stretch). s.of) a.stretches) (map a.class_of ks)) (chains n)) Listed
      (says_first (λ ks. unless (list_any (λ (s : Stretch). same_list s.of (map a.class_of ks)) a.stretches) (Missing ks)) (λ ks. Contains (map (λ (s : Stretch). s.of) a.stretches) (map a.class_of ks))
      (λ ks. says_unless (list_any (λ (s : Stretch). same_list s.of (map a.class_of ks)) a.stretches) (Missing ks) (Contains (map (λ (s : Stretch). s.of) a.stretches) (map a.class_of ks)) (tells_listed ks)) (chains n))
      (λ h ks c e. all_has (λ ks. Contains (map (λ (s : Stretch). s.of) a.stretches) (map a.class_of ks)) (chains n) ks h (chain_listed n ks some c e))
      (λ h. all_from_has (λ ks. Contains (map (λ (s : Stretch). s.of) a.stretches) (map a.class_of ks)) (chains n) (λ ks has. let c = listed_chain n ks some has in h ks c.0 c.1))

  pub waiter_to : (g : ℕ) → HasWaiter p g → (has_waiter p g ≡ true) × (g < p.groups)
  waiter_to g w =
      let l : w.job < p.crons = ltb-true w.job p.crons w.cron in (
        any_has (λ j. waits p j && locks p g j) (below p.crons) w.job (below_has p.crons w.job l) (and_from (waits p w.job) (locks p g w.job) w.waits w.locks),
        plan.groups w.job g (group_of p g w.job w.locks),
      )

  pub waiter_from : (g : ℕ) → has_waiter p g ≡ true → HasWaiter p g
  waiter_from g e =
      let h = has_any (λ j. waits p j && locks p g j) (below p.crons) e in
      let k = and_parts (waits p h.0) (locks p g h.0) h.2 in
      record { job = h.0; cron = lt-ltb h.0 p.crons (has_below_lt p.crons h.0 h.1); waits = k.0; locks = k.1 }

  abbrev pub Steps : ℕ → Stretch → Type 0
  Steps g s = StepsHold (a.bound (nth s.of (n - 2)) g) (arrivals p a g (nth s.of (n - 2))) (a.bound (nth s.of (n - 1)) g)

  abbrev pub Rising : Stretch → Type 0
  Rising s = (m : ℕ) → m < 1440 → (g : ℕ) → g < p.groups → has_waiter p g ≡ true → (a.bound (nth s.of (n - 2)) g m + arrivals p a g (nth s.of (n - 2)) m) - 1 ≤ at_days (a.bound (nth s.of (n - 2)) g ∷ a.bound (nth s.of (n - 1)) g ∷ []) (m + 1)

  pub says_rise : (s : Stretch) → Says (rise_in p a n s) (Rising s)
  says_rise s = says_minutes (λ m. first_of (λ g. unless (not (has_waiter p g) || steps_at p a n s m g) (m, g)) (below p.groups)) (λ m. (g : ℕ) → g < p.groups → has_waiter p g ≡ true → (a.bound (nth s.of (n - 2)) g m + arrivals p a g (nth s.of (n - 2)) m) - 1 ≤ at_days (a.bound (nth s.of (n - 2)) g ∷ a.bound (nth s.of (n - 1)) g ∷ []) (m + 1))
      (λ m. says_below (λ g. unless (not (has_waiter p g) || steps_at p a n s m g) (m, g)) (λ g. has_waiter p g ≡ true → (a.bound (nth s.of (n - 2)) g m + arrivals p a g (nth s.of (n - 2)) m) - 1 ≤ at_days (a.bound (nth s.of (n - 2)) g ∷ a.bound (nth s.of (n - 1)) g ∷ []) (m + 1)) p.groups
      (λ g. says_unless (not (has_waiter p g) || steps_at p a n s m g) (m, g) (has_waiter p g ≡ true → (a.bound (nth s.of (n - 2)) g m + arrivals p a g (nth s.of (n - 2)) m) - 1 ≤ at_days (a.bound (nth s.of (n - 2)) g ∷ a.bound (nth s.of (n - 1)) g ∷ []) (m + 1))
      (tells_if (has_waiter p g) (steps_at p a n s m g) ((a.bound (nth s.of (n - 2)) g m + arrivals p a g (nth s.of (n - 2)) m) - 1 ≤ at_days (a.bound (nth s.of (n - 2)) g ∷ a.bound (nth s.of (n - 1)) g ∷ []) (m + 1))
      (tells_le ((a.bound (nth s.of (n - 2)) g m + arrivals p a g (nth s.of (n - 2)) m) - 1) (at_days (a.bound (nth s.of (n - 2)) g ∷ a.bound (nth s.of (n - 1)) g ∷ []) (m + 1))))))

  pub says_three : Says (step_fault p a n) ((g : ℕ) → HasWaiter p g → InEach a n (Steps g))
  says_three = says_to (step_fault p a n) (InEach a n Rising) ((g : ℕ) → HasWaiter p g → InEach a n (Steps g))
      (says_each (λ s. option_map (λ (f : ℕ × ℕ). BacklogRises f.1 (minute_of a n s f.0 - 1440)) (rise_in p a n s)) Rising
      (λ s. says_map (λ (f : ℕ × ℕ). BacklogRises f.1 (minute_of a n s f.0 - 1440)) (rise_in p a n s) (Rising s) (says_rise s)))
      (λ h g w. let k = waiter_to g w in all_map (λ s. IsUsed a n s.of → Rising s) (λ s. IsUsed a n s.of → Steps g s) a.stretches (λ s q u m lt. q u m lt g k.1 k.0) h)
      (λ h. all_map (λ s. (g : ℕ) (w : HasWaiter p g) → IsUsed a n s.of → Steps g s) (λ s. IsUsed a n s.of → Rising s) a.stretches (λ s q u m lt g l e. q g (waiter_from g e) u m lt)
      (all_swap (λ g s. (w : HasWaiter p g) → IsUsed a n s.of → Steps g s) a.stretches (λ g. all_swap_in g (h g))))
    where
      all_swap_in : (g : ℕ) → (HasWaiter p g → InEach a n (Steps g)) → AllByRecursion (λ s. (w : HasWaiter p g) → IsUsed a n s.of → Steps g s) a.stretches
      all_swap_in g h = all_swap (λ (w : HasWaiter p g) s. IsUsed a n s.of → Steps g s) a.stretches h

  pub tells_clears : (bs : List (ℕ → ℕ)) (due r : ℕ) → Tells (clears_by bs due r) (ClearsBy bs due r)
  tells_clears bs due r = (
    λ e. let h = has_any (λ m. (nat_lt due m && nat_le m (due + r)) && (at_days bs m == 0)) (range_with_len 0 (1440 * length bs)) e in
        let x = and_parts (nat_lt due h.0 && nat_le h.0 (due + r)) (at_days bs h.0 == 0) h.2 in
        let y = and_parts (nat_lt due h.0) (nat_le h.0 (due + r)) x.0 in
        (h.0, ltb-true due h.0 y.0, leb-true h.0 (due + r) y.1, ((let k = range_has 0 (1440 * length bs) h.0 h.1 in omega (arith, k.1)), eqb-true (at_days bs h.0) 0 x.1)),
    λ c. any_has (λ m. (nat_lt due m && nat_le m (due + r)) && (at_days bs m == 0)) (range_with_len 0 (1440 * length bs)) c.0 (has_range 0 (1440 * length bs) c.0 (omega arith) (omega (arith, c.3.0)))
        (and_from (nat_lt due c.0 && nat_le c.0 (due + r)) (at_days bs c.0 == 0) (and_from (nat_lt due c.0) (nat_le c.0 (due + r)) (lt-ltb due c.0 c.1) (le-leb c.0 (due + r) c.2)) (eq-eqb (at_days bs c.0) 0 c.3.1)),
  )

  abbrev pub Zeros : ℕ → ℕ → ℕ → Stretch → Type 0
  Zeros j g r s = (m : ℕ) → m < 1440 → a.due (nth s.of 0) j m ≡ true → ClearsBy (map (λ class. a.bound class g) s.of) m r

  abbrev pub Far : ℕ → ℕ → Option ℕ → Type 0
  Far j g o = (r : ℕ) × (o ≡ Some r) × InEach a n (Zeros j g r)

  pub tells_far : (j : ℕ) (o : Option ℕ) → Tells (reaches_far p a n j o) (Far j (unwrap_or (p.group j) 0) o)
  tells_far j None = (λ e. absurd (cc), λ f. absurd (let e = f.1 in cc))
  tells_far j (Some r) =
      let t = tells_each (λ s. list_all (λ m. not (a.due (nth s.of 0) j m) || clears_by (map (λ class. a.bound class (unwrap_or (p.group j) 0)) s.of) m r) day_minutes) (Zeros j (unwrap_or (p.group j) 0) r)
      (λ s. tells_minutes (λ m. not (a.due (nth s.of 0) j m) || clears_by (map (λ class. a.bound class (unwrap_or (p.group j) 0)) s.of) m r) (λ m. a.due (nth s.of 0) j m ≡ true → ClearsBy (map (λ class. a.bound class (unwrap_or (p.group j) 0)) s.of) m r)
      (λ m. tells_if (a.due (nth s.of 0) j m) (clears_by (map (λ class. a.bound class (unwrap_or (p.group j) 0)) s.of) m r) (ClearsBy (map (λ class. a.bound class (unwrap_or (p.group j) 0)) s.of) m r) (tells_clears (map (λ class. a.bound class (unwrap_or (p.group j) 0)) s.of) m r))) in
      (λ e. (r, refl, t.0 e), λ f. t.1 (subst (λ (k : ℕ). InEach a n (Zeros j (unwrap_or (p.group j) 0) k)) (sym (some_is r f.0 f.1)) f.2))
    where
      some_is : (x y : ℕ) → Some x ≡ Some y → x ≡ y
      some_is x y e = cc

  abbrev pub Clearing : Type 0
  Clearing = (j g : ℕ) → is_cron p j ≡ true → waits p j ≡ true → locks p g j ≡ true → (r : ℕ) × (a.reach j ≡ Some r) × InEach a n (λ s. (m : ℕ) → m < 1440 → a.due (nth s.of 0) j m ≡ true → ClearsBy (map (λ class. a.bound class g) s.of) m r)

  pub says_four : Says (reach_fault p a n) Clearing
  says_four = says_to (reach_fault p a n) ((j : ℕ) → j < p.crons → waits p j ≡ true → Far j (unwrap_or (p.group j) 0) (a.reach j)) Clearing
      (says_below (λ j. unless (not (waits p j) || reaches_far p a n j (a.reach j)) (ReachTooShort j)) (λ j. waits p j ≡ true → Far j (unwrap_or (p.group j) 0) (a.reach j)) p.crons
      (λ j. says_unless (not (waits p j) || reaches_far p a n j (a.reach j)) (ReachTooShort j) (waits p j ≡ true → Far j (unwrap_or (p.group j) 0) (a.reach j))
      (tells_if (waits p j) (reaches_far p a n j (a.reach j)) (Far j (unwrap_or (p.group j) 0) (a.reach j)) (tells_far j (a.reach j)))))
      (λ h j g cron wait lock. subst (λ (k : ℕ). Far j k (a.reach j)) (ap (λ (o : Option ℕ). unwrap_or o 0) (group_of p g j lock)) (h j (ltb-true j p.crons cron) wait))
      (λ h j l wait.
      let takes = waits_takes (p.mode j) wait in
      let g = plan.lock_has_group j takes in
      subst (λ (k : ℕ). Far j k (a.reach j)) (sym (ap (λ (o : Option ℕ). unwrap_or o 0) g.1)) (h j g.0 (lt-ltb j p.crons l) wait (locks_of p g.0 j takes g.1)))

  pub says_missing : (tree : Option Tree) (ws : List Window) → Says (missing_in tree ws) (ListsAll tree ws)
  says_missing None ws = (λ _. tt, λ _. refl)
  says_missing (Some tree) ws = says_minutes (λ m. option_map (λ (w : Window). (m, w)) (find (λ w. not (lists (entries_at tree m) w)) (holders m ws))) (λ m. AllByRecursion (λ w. lists (entries_at tree m) w ≡ true) (holders m ws))
      (λ m. says_map (λ (w : Window). (m, w)) (find (λ w. not (lists (entries_at tree m) w)) (holders m ws)) (AllByRecursion (λ w. lists (entries_at tree m) w ≡ true) (holders m ws))
      (says_to (find (λ w. not (lists (entries_at tree m) w)) (holders m ws)) (AllByRecursion (λ w. not (lists (entries_at tree m) w) ≡ false) (holders m ws)) (AllByRecursion (λ w. lists (entries_at tree m) w ≡ true) (holders m ws))
      (says_find (λ w. not (lists (entries_at tree m) w)) (holders m ws))
      (all_map (λ w. not (lists (entries_at tree m) w) ≡ false) (λ w. lists (entries_at tree m) w ≡ true) (holders m ws) (λ w e. not-false (lists (entries_at tree m) w) e))
      (all_map (λ w. lists (entries_at tree m) w ≡ true) (λ w. not (lists (entries_at tree m) w) ≡ false) (holders m ws) (λ w e. not_from_true (lists (entries_at tree m) w) e))))

  pub says_five : Says (leaf_fault p a n) (InEach a n (IsCovered p a))
  says_five = says_each (λ s. option_map (λ (f : ℕ × Window). WindowMissing f.1 (minute_of a n s f.0)) (missing_in s.tree (windows_of p a s.of))) (IsCovered p a)
      (λ s. says_map (λ (f : ℕ × Window). WindowMissing f.1 (minute_of a n s f.0)) (missing_in s.tree (windows_of p a s.of)) (IsCovered p a s) (says_missing s.tree (windows_of p a s.of)))

  -- a clash is one in the group of the first
  the_group : (o : Option ℕ) (j : ℕ) → (exclusive_group p o && in_group_of p o j) ≡ true → (g : ℕ) × (o ≡ Some g)
  the_group None j e = absurd (cc)
  the_group (Some g) j e = (g, refl)

  in_no_group : (v w : Window) → ((g : ℕ) → g < p.groups → (belongs p g v.job && clash p v.job w.job) ≡ false) → clash p v.job w.job ≡ false
  in_no_group v w h = false_from_ne_true (clash p v.job w.job) (λ e.
      let r = and_parts (rivals p v.job w.job) ((is_cron p v.job || is_cron p w.job) && not (takes_lock p v.job && takes_lock p w.job)) e in
      let g = the_group (p.group v.job) w.job r.0 in
      both_ways (belongs p g.0 v.job && clash p v.job w.job) (h g.0 (plan.groups v.job g.0 g.1)) (and_from (belongs p g.0 v.job) (clash p v.job w.job) (ap (is_group g.0) g.1 ∙ eq-eqb g.0 g.0 refl) e))

  apart_to : (ws : List Window) → ((g : ℕ) → g < p.groups → EachPair (λ v w. (belongs p g v.job && clash p v.job w.job) ≡ false) ws) → EachPair (λ v w. clash p v.job w.job ≡ false) ws
  apart_to ws h = pairs_map (λ (v : Window). Unit {0}) (λ v w. (g : ℕ) (l : g < p.groups) → (belongs p g v.job && clash p v.job w.job) ≡ false) (λ v w. clash p v.job w.job ≡ false) ws (λ v w _ _ k. in_no_group v w k)
      (all_any (λ (v : Window). Unit {0}) ws (λ _. tt))
      (pairs_swap (λ g v w. (l : g < p.groups) → (belongs p g v.job && clash p v.job w.job) ≡ false) ws (λ g. pairs_swap (λ (l : g < p.groups) v w. (belongs p g v.job && clash p v.job w.job) ≡ false) ws (h g)))

  apart_from : (ws : List Window) → EachPair (λ v w. clash p v.job w.job ≡ false) ws → (g : ℕ) → g < p.groups → EachPair (λ v w. (belongs p g v.job && clash p v.job w.job) ≡ false) ws
  apart_from ws h g l = pairs_map (λ (v : Window). Unit {0}) (λ v w. clash p v.job w.job ≡ false) (λ v w. (belongs p g v.job && clash p v.job w.job) ≡ false) ws (λ v w _ _ k. and_right (belongs p g v.job) (clash p v.job w.job) k) (all_any (λ (v : Window). Unit {0}) ws (λ _. tt)) h

  pub says_collision : (ws : List Window) → Says (collision_in p ws) (AreApart p ws)
  says_collision ws = says_minutes (λ m. first_of (λ g. option_map (λ (q : Window × Window). (m, q.0, q.1)) (first_pair (λ v w. belongs p g v.job && clash p v.job w.job) (holders m ws))) (below p.groups)) (λ m. EachPair (λ v w. clash p v.job w.job ≡ false) (holders m ws))
      (λ m. says_to (first_of (λ g. option_map (λ (q : Window × Window). (m, q.0, q.1)) (first_pair (λ v w. belongs p g v.job && clash p v.job w.job) (holders m ws))) (below p.groups))
      ((g : ℕ) → g < p.groups → EachPair (λ v w. (belongs p g v.job && clash p v.job w.job) ≡ false) (holders m ws)) (EachPair (λ v w. clash p v.job w.job ≡ false) (holders m ws))
      (says_below (λ g. option_map (λ (q : Window × Window). (m, q.0, q.1)) (first_pair (λ v w. belongs p g v.job && clash p v.job w.job) (holders m ws))) (λ g. EachPair (λ v w. (belongs p g v.job && clash p v.job w.job) ≡ false) (holders m ws)) p.groups
      (λ g. says_map (λ (q : Window × Window). (m, q.0, q.1)) (first_pair (λ v w. belongs p g v.job && clash p v.job w.job) (holders m ws)) (EachPair (λ v w. (belongs p g v.job && clash p v.job w.job) ≡ false) (holders m ws))
      (says_pair (λ v w. belongs p g v.job && clash p v.job w.job) (holders m ws))))
      (apart_to (holders m ws)) (apart_from (holders m ws)))

  pub says_six : Says (collision_fault p a n) (InEach a n (λ s. AreApart p (windows_of p a s.of)))
  says_six = says_each (λ s. option_map (λ (f : ℕ × Window × Window). Collision (minute_of a n s f.0) f.1 f.2) (collision_in p (windows_of p a s.of))) (λ s. AreApart p (windows_of p a s.of))
      (λ s. says_map (λ (f : ℕ × Window × Window). Collision (minute_of a n s f.0) f.1 f.2) (collision_in p (windows_of p a s.of)) (AreApart p (windows_of p a s.of)) (says_collision (windows_of p a s.of)))

  pub says_overload : (ws : List Window) → Says (overload_in p n ws) (AreWithin p n ws)
  says_overload ws = says_minutes (λ m. unless (nat_le (load p (map (run_in n) (holders m ws))) p.capacity) (m, load p (map (run_in n) (holders m ws)))) (λ m. load p (map (run_in n) (holders m ws)) ≤ p.capacity)
      (λ m. says_unless (nat_le (load p (map (run_in n) (holders m ws))) p.capacity) (m, load p (map (run_in n) (holders m ws))) (load p (map (run_in n) (holders m ws)) ≤ p.capacity)
      (tells_le (load p (map (run_in n) (holders m ws))) p.capacity))

  pub says_seven : Says (capacity_fault p a n) (InEach a n (λ s. AreWithin p n (windows_of p a s.of)))
  says_seven = says_each (λ s. option_map (λ (f : ℕ × ℕ). OverCapacity (minute_of a n s f.0) f.1) (overload_in p n (windows_of p a s.of))) (λ s. AreWithin p n (windows_of p a s.of))
      (λ s. says_map (λ (f : ℕ × ℕ). OverCapacity (minute_of a n s f.0) f.1) (overload_in p n (windows_of p a s.of)) (AreWithin p n (windows_of p a s.of)) (says_overload (windows_of p a s.of)))

  pub says_blocked : (ws : List Window) → Says (blocked_in p ws) (AreFree p ws)
  says_blocked ws = says_minutes (λ m. first_of (λ v. option_map (λ (w : Window). (m, v, w)) (find (blocks p m v) (holders m ws))) (holders m ws)) (λ m. AllByRecursion (λ v. AllByRecursion (λ w. blocks p m v w ≡ false) (holders m ws)) (holders m ws))
      (λ m. says_first (λ v. option_map (λ (w : Window). (m, v, w)) (find (blocks p m v) (holders m ws))) (λ v. AllByRecursion (λ w. blocks p m v w ≡ false) (holders m ws))
      (λ v. says_map (λ (w : Window). (m, v, w)) (find (blocks p m v) (holders m ws)) (AllByRecursion (λ w. blocks p m v w ≡ false) (holders m ws)) (says_find (blocks p m v) (holders m ws))) (holders m ws))

  pub says_eight : Says (skip_fault p a n) (InEach a n (λ s. AreFree p (windows_of p a s.of)))
  says_eight = says_each (λ s. option_map (λ (f : ℕ × Window × Window). SkipBlocked (minute_of a n s f.0) f.1 f.2) (blocked_in p (windows_of p a s.of))) (λ s. AreFree p (windows_of p a s.of))
      (λ s. says_map (λ (f : ℕ × Window × Window). SkipBlocked (minute_of a n s f.0) f.1 f.2) (blocked_in p (windows_of p a s.of)) (AreFree p (windows_of p a s.of)) (says_blocked (windows_of p a s.of)))

  pub says_all : Says (first_fault p on a n) (IsAccepted p on a n)
  unfolding first_fault
  says_all = let e8 = says_eight in
      let P8 = InEach a n (λ s. AreFree p (windows_of p a s.of)) in
      let P7 = InEach a n (λ s. AreWithin p n (windows_of p a s.of)) in
      let P6 = InEach a n (λ s. AreApart p (windows_of p a s.of)) in
      let P5 = InEach a n (IsCovered p a) in
      let P3 = (g : ℕ) → HasWaiter p g → InEach a n (Steps g) in
      let o8 = skip_fault p a n in
      let o7 = or_else (capacity_fault p a n) o8 in
      let o6 = or_else (collision_fault p a n) o7 in
      let o5 = or_else (leaf_fault p a n) o6 in
      let o4 = or_else (reach_fault p a n) o5 in
      let o3 = or_else (step_fault p a n) o4 in
      let o2 = or_else (stretch_fault a n) o3 in
      let Q7 = P7 × P8 in
      let Q6 = P6 × Q7 in
      let Q5 = P5 × Q6 in
      let Q4 = Clearing × Q5 in
      let Q3 = P3 × Q4 in
      let Q2 = Listed × Q3 in
      let e7 = says_or (capacity_fault p a n) o8 P7 P8 says_seven e8 in
      let e6 = says_or (collision_fault p a n) o7 P6 Q7 says_six e7 in
      let e5 = says_or (leaf_fault p a n) o6 P5 Q6 says_five e6 in
      let e4 = says_or (reach_fault p a n) o5 Clearing Q5 says_four e5 in
      let e3 = says_or (step_fault p a n) o4 P3 Q4 says_three e4 in
      let e2 = says_or (stretch_fault a n) o3 Listed Q3 says_two e3 in
      says_to (first_fault p on a n) (Due × Q2) (IsAccepted p on a n)
      (says_or (due_fault p on a) o2 Due Q2 says_one e2)
      (λ h. record { due = h.0; listed = h.1.0; steps = h.1.1.0; clears = h.1.1.1.0; covered = h.1.1.1.1.0; apart = h.1.1.1.1.1.0; within = h.1.1.1.1.1.1.0; free = h.1.1.1.1.1.1.1 })
      (λ h. (h.due, (h.listed, (h.steps, (h.clears, (h.covered, (h.apart, (h.within, h.free))))))))
