-- Calm at every minute, and each run in its window: the history is safe.
use Rattle.std.proofs.Common.{length, ℕ, ◌+◌, ◌-◌, ◌%◌, ◌≤◌, ◌≡◌, Bool, true, false, not, ◌&&◌, if◌then◌else◌, List, [], ◌∷◌, map, refl, sym, ap, ◌∙◌, subst, arith, ◌==◌}
use Rattle.std.specs.List.{AllByRecursion, list_any}
use Rattle.std.proofs.lemmas.Bool.{and_parts, and_from, eqb-true, false_from_ne_true, both_ways}
use Rattle.cs_history.specs.Lists.{total, EachPair, below}
use Rattle.cs_history.specs.Plan.{Plan, is_cron, takes_lock, shares, locks, same_group, both_share, in_the_way, rivals, exclusive_group, IsPlan, IsReached}
use Rattle.cs_history.specs.declared.mode.Mode.TheVariants.{Skip}
use Rattle.cs_history.specs.History.{run_of, going, History, From, ◌▸◌, same_run, now, is_free, running, Starts, Skips, when_held, pending, waiting, IsLegal, IsInTime, IsSafeNow, IsNoSkip, IsSafe}
use Rattle.cs_history.specs.declared.run.Run.{Run}
use Rattle.cs_history.specs.declared.run.Going.{Going}
use Rattle.cs_history.specs.declared.event.Event.{Event}
use Rattle.cs_history.specs.declared.event.Event.TheVariants.{Minute, Begin, Got, Catch, End, Down, Up}
use Rattle.cs_history.specs.Calm.{Holds, window_of, lock_load, load, IsCalm, IsBounded}
use Rattle.cs_history.proofs.Lists.{all_map, all_zip, all_any, all-map, any_at, none_pass, pairs_map, pairs_zip, pairs-map, total_le, total-map, greatest-map, total_sum, total_swap, term_below, holders_total, lone_total}
use Rattle.cs_history.specs.Names.{AreApart}
use Rattle.cs_history.specs.Step.{state_of}
use Rattle.cs_history.proofs.Names.{named, apart, same_parts, same_from}
use Rattle.cs_theorem.proofs.Locks.{locks_of, held_apart}
use Rattle.cs_theorem.proofs.Kept.{IsGoing, IsPending, Kept, fresh}
use Rattle.cs_theorem.proofs.Runs.{in_window, kept}

parts_step : (p : Plan) → IsPlan p → (j : ℕ) (s a : Bool) → is_cron p j ≡ s → takes_lock p j ≡ a
    → p.weight j ≤ (if s && not a then p.weight j else 0) + total (λ g. if locks p g j then p.weight j else 0) (below p.groups) + (if not s then p.weight j else 0)
parts_step p plan j false a e f = omega arith
parts_step p plan j true false e f = omega arith
parts_step p plan j true true e f =
    let of = plan.lock_has_group j f in
    let term = term_below (λ g. if locks p g j then p.weight j else 0) p.groups of.0 (plan.groups j of.0 of.1) in
    let is : (if locks p of.0 j then p.weight j else 0) ≡ p.weight j = ap (λ (x : Bool). if x then p.weight j else 0) (locks_of p of.0 j f of.1) in
    omega (arith, term, is)

module _ (p : Plan) (plan : IsPlan p) where
  plain : Going → ℕ
  plain r = if is_cron p r.run.job && not (takes_lock p r.run.job) then p.weight r.run.job else 0

  locked : Going → ℕ → ℕ
  locked r g = if locks p g r.run.job then p.weight r.run.job else 0

  caught : Going → ℕ
  caught r = if not (is_cron p r.run.job) then p.weight r.run.job else 0

  parts : (r : Going) → p.weight r.run.job ≤ plain r + total (locked r) (below p.groups) + caught r
  unfolding plain locked caught
  parts r = parts_step p plan r.run.job (is_cron p r.run.job) (takes_lock p r.run.job) refl refl

  whole : (rs : List Going) → total (λ (r : Going). p.weight r.run.job) rs ≤ total plain rs + total (λ g. total (λ (r : Going). locked r g) rs) (below p.groups) + total caught rs
  whole rs =
      let a = total_le (λ (r : Going). p.weight r.run.job) (λ (r : Going). plain r + total (locked r) (below p.groups) + caught r) rs (all_any (λ r. p.weight r.run.job ≤ plain r + total (locked r) (below p.groups) + caught r) rs parts) in
      let x = total_sum (λ (r : Going). plain r + total (locked r) (below p.groups)) caught rs in
      let y = total_sum plain (λ (r : Going). total (locked r) (below p.groups)) rs in
      let z = total_swap locked rs (below p.groups) in
      omega (arith, a, x, y, z)

  group_load : (rs : List Going) → EachPair (λ r q. in_the_way p q.run.job r.run.job ≡ false) rs → (g : ℕ) → total (λ (r : Going). locked r g) rs ≤ lock_load p (map (window_of p) rs) g
  unfolding locked
  group_load rs apart g =
      let h = holders_total (λ (r : Going). locks p g r.run.job) (λ (r : Going). shares p r.run.job) (λ (r : Going). p.weight r.run.job) rs
      (pairs_map (λ (r : Going). Unit {0}) (λ r q. in_the_way p q.run.job r.run.job ≡ false) (λ r q. ((locks p g q.run.job && locks p g r.run.job) && not (shares p q.run.job && shares p r.run.job)) ≡ false) rs (λ r q _ _ e. held_apart p g q.run.job r.run.job e) (all_any (λ (r : Going). Unit {0}) rs (λ _. tt)) apart) in
      let x = greatest-map (λ (w : Run). if locks p g w.job && not (shares p w.job) then p.weight w.job else 0) (window_of p) rs in
      let y = total-map (λ (w : Run). if locks p g w.job && shares p w.job then p.weight w.job else 0) (window_of p) rs in
      omega (arith, h, x, y)

  pub load_is : (rs : List Going) → EachPair (λ r q. in_the_way p q.run.job r.run.job ≡ false) rs → EachPair (λ r q. (not (is_cron p q.run.job) && not (is_cron p r.run.job)) ≡ false) rs → total (λ (r : Going). p.weight r.run.job) rs ≤ load p (map (window_of p) rs)
  unfolding plain caught
  load_is rs apart lone =
      let a = whole rs in
      let x = total-map (λ (w : Run). if is_cron p w.job && not (takes_lock p w.job) then p.weight w.job else 0) (window_of p) rs in
      let y = greatest-map (λ (w : Run). if not (is_cron p w.job) then p.weight w.job else 0) (window_of p) rs in
      let z = lone_total (λ (r : Going). not (is_cron p r.run.job)) (λ (r : Going). p.weight r.run.job) rs lone in
      let v = total_le (λ g. total (λ (r : Going). locked r g) rs) (lock_load p (map (window_of p) rs)) (below p.groups) (all_any (λ g. total (λ (r : Going). locked r g) rs ≤ lock_load p (map (window_of p) rs) g) (below p.groups) (group_load rs apart)) in
      omega (arith, a, x, y, z, v)

same_sym : (v w : Run) → same_run v w ≡ false → same_run w v ≡ false
same_sym v w e = false_from_ne_true (same_run w v) (λ s. let h = same_parts w v s in both_ways (same_run v w) e (same_from v w (sym h.0) (sym h.1)))

job_differs : (p : Plan) (v w : Run) (s : Bool) → is_cron p v.job ≡ s → is_cron p w.job ≡ not s → same_run v w ≡ false
job_differs p v w true a c = false_from_ne_true (same_run v w) (λ e. both_ways (is_cron p w.job) c (ap (is_cron p) (sym (same_parts v w e).0) ∙ a))
job_differs p v w false a c = false_from_ne_true (same_run v w) (λ e. both_ways (is_cron p v.job) a (ap (is_cron p) (same_parts v w e).0 ∙ c))

cron_window : (p : Plan) (r : Going) → is_cron p r.run.job ≡ true → (window_of p r).at ≡ r.run.at
cron_window p r e = ap (λ (x : Bool). if x then r.run.at else (r.since - r.since % 1440 + p.from)) e

windows_two : (p : Plan) (r q : Going) (s a : Bool) → is_cron p r.run.job ≡ s → is_cron p q.run.job ≡ a → same_run r.run q.run ≡ false → (not (is_cron p q.run.job) && not (is_cron p r.run.job)) ≡ false → same_run (window_of p r) (window_of p q) ≡ false
windows_two p r q true true e f names lone = false_from_ne_true (same_run (window_of p r) (window_of p q)) (λ h.
    let x = same_parts (window_of p r) (window_of p q) h in
    both_ways (same_run r.run q.run) names (same_from r.run q.run x.0 (sym (cron_window p r e) ∙ (x.1 ∙ cron_window p q f))))
windows_two p r q true false e f names lone = job_differs p (window_of p r) (window_of p q) true e f
windows_two p r q false true e f names lone = job_differs p (window_of p r) (window_of p q) false e f
windows_two p r q false false e f names lone = absurd (both_ways (not (is_cron p q.run.job) && not (is_cron p r.run.job)) lone (and_from _ _ (ap not f) (ap not e)))

way_of : (a b s n : Bool) → a ≡ true → b ≡ true → s ≡ true → ((a && b) && (s && n)) ≡ false → n ≡ false
way_of a b s n ha hb hs e = sym (ap (λ x. (x && b) && (s && n)) ha ∙ ap (λ x. x && (s && n)) hb ∙ ap (λ x. x && n) hs) ∙ e

apart_step : (p : Plan) (c : ℕ → ℕ) (t : ℕ) → IsCalm p c t → (r q : Going) → Holds p c t (window_of p r) → Holds p c t (window_of p q) → same_run (window_of p r) (window_of p q) ≡ false → in_the_way p q.run.job r.run.job ≡ false → (not (is_cron p q.run.job) && not (is_cron p r.run.job)) ≡ false
    → (s a : Bool) → is_cron p r.run.job ≡ s → is_cron p q.run.job ≡ a → rivals p q.run.job r.run.job ≡ true → not (both_share p q.run.job r.run.job) ≡ false
apart_step p c t calm r q hr hq two way lone true true e f rival =
    let both = calm.exclusive (window_of p q) (window_of p r) hq hr (same_sym (window_of p r) (window_of p q) two) f e rival in
    way_of (takes_lock p q.run.job) (takes_lock p r.run.job) (same_group p q.run.job r.run.job) (not (both_share p q.run.job r.run.job)) both.0 both.1 (and_parts (exclusive_group p (p.group q.run.job)) (same_group p q.run.job r.run.job) rival).1 way
apart_step p c t calm r q hr hq two way lone true false e f rival = absurd (both_ways (rivals p q.run.job r.run.job) (calm.beside (window_of p r) (window_of p q) hr hq e f).1 rival)
apart_step p c t calm r q hr hq two way lone false true e f rival = absurd (both_ways (rivals p q.run.job r.run.job) (calm.beside (window_of p q) (window_of p r) hq hr f e).0 rival)
apart_step p c t calm r q hr hq two way lone false false e f rival = absurd (both_ways (not (is_cron p q.run.job) && not (is_cron p r.run.job)) lone (and_from _ _ (ap not f) (ap not e)))

or_neither : (a n : Bool) → (a ≡ true → n ≡ false) → (a && n) ≡ false
or_neither true n h = h refl
or_neither false n h = refl

module _ (p : Plan) (c : ℕ → ℕ) (b : ℕ → ℕ → ℕ) (plan : IsPlan p) (bounded : IsBounded p c b) where
  open_windows : (t : ℕ) (js : List ℕ) (ws : List Run) (rs : List Going) → Kept p b t js ws rs → AllByRecursion (λ r. Holds p c t (window_of p r)) rs
  open_windows t js ws rs k = all_map (IsGoing p b t) (λ r. Holds p c t (window_of p r)) rs (λ r q. in_window p c b plan bounded t r k.civil q) k.goes

  two_windows : (h : History) → AreApart p (state_of p h) → EachPair (λ r q. same_run (window_of p r) (window_of p q) ≡ false) (running p h)
  two_windows h n = pairs_map (λ (r : Going). Unit {0})
      (λ r q. (same_run r.run q.run ≡ false) × ((not (is_cron p q.run.job) && not (is_cron p r.run.job)) ≡ false))
      (λ r q. same_run (window_of p r) (window_of p q) ≡ false) (running p h) (λ r q _ _ e. windows_two p r q (is_cron p r.run.job) (is_cron p q.run.job) refl refl e.0 e.1)
      (all_any (λ (r : Going). Unit {0}) (running p h) (λ _. tt))
      (pairs_zip (λ r q. same_run r.run q.run ≡ false) (λ r q. (not (is_cron p q.run.job) && not (is_cron p r.run.job)) ≡ false) (running p h) n.running n.lone)

  safe_now : (h : History) → Kept p b (now h) (pending p h) (waiting p h) (running p h) → AreApart p (state_of p h) → IsCalm p c (now h) → IsSafeNow p h
  safe_now h k n calm =
      let t : ℕ = now h in
      let rs : List Going = running p h in
      let open_now = open_windows t (pending p h) (waiting p h) rs k in
      let two = two_windows h n in
      record {
        apart = pairs_map (λ r. Holds p c t (window_of p r))
            (λ r q. (same_run (window_of p r) (window_of p q) ≡ false) × ((in_the_way p q.run.job r.run.job ≡ false) × ((not (is_cron p q.run.job) && not (is_cron p r.run.job)) ≡ false)))
            (λ r q. (rivals p q.run.job r.run.job && not (both_share p q.run.job r.run.job)) ≡ false) rs
            (λ r q hr hq e. or_neither (rivals p q.run.job r.run.job) (not (both_share p q.run.job r.run.job)) (apart_step p c t calm r q hr hq e.0 e.1.0 e.1.1 (is_cron p r.run.job) (is_cron p q.run.job) refl refl))
            open_now
            (pairs_zip (λ r q. same_run (window_of p r) (window_of p q) ≡ false) (λ r q. (in_the_way p q.run.job r.run.job ≡ false) × ((not (is_cron p q.run.job) && not (is_cron p r.run.job)) ≡ false)) rs two
            (pairs_zip (λ r q. in_the_way p q.run.job r.run.job ≡ false) (λ r q. (not (is_cron p q.run.job) && not (is_cron p r.run.job)) ≡ false) rs k.apart n.lone));
        load = let x = load_is p plan rs k.apart n.lone in
            let y = calm.load (map (window_of p) rs) (pairs-map (λ v w. same_run v w ≡ false) (window_of p) rs two) (all-map (Holds p c t) (window_of p) rs open_now) in
            omega (arith, x, y);
      }

  off_way : (a b s n : Bool) → (b && s) ≡ false → ((a && b) && (s && n)) ≡ false
  off_way false b s n e = refl
  off_way true true s n e = ap (λ x. x && n) e
  off_way true false s n e = refl

  module _ (t : ℕ) (js : List ℕ) (ws : List Run) (rs : List Going) (k : Kept p b t js ws rs) (j : ℕ) (not_started : AllByRecursion (λ r. same_run (run_of j t) r.run ≡ false) rs) (calm : IsCalm p c t) (due : list_any (λ i. j == i) js ≡ true) (skip : p.mode j ≡ Skip) where
    now_due : IsPending p t j
    now_due = let found = any_at (λ i. j == i) (IsPending p t) js due k.pending in subst (IsPending p t) (sym (eqb-true j found.0 found.1)) found.2

    this_window : Run
    this_window = window_of p (going j t t)

    other_window : (r : Going) → same_run (record { job = j; at = t }) r.run ≡ false → same_run this_window (window_of p r) ≡ false
    unfolding this_window
    other_window r e = false_from_ne_true (same_run this_window (window_of p r)) (λ s.
        let h = same_parts (window_of p (going j t t)) (window_of p r) s in
        let cron : is_cron p r.run.job ≡ true = ap (is_cron p) (sym h.0) ∙ now_due.cron in
        both_ways (same_run (record { job = j; at = t }) r.run) e (same_from (record { job = j; at = t }) r.run h.0 (sym (cron_window p (going j t t) now_due.cron) ∙ (h.1 ∙ cron_window p r cron))))

    out_of_way : AllByRecursion (λ r. in_the_way p j r.run.job ≡ false) rs
    unfolding this_window
    out_of_way = all_zip (λ r. same_run (record { job = j; at = t }) r.run ≡ false) (λ r. Holds p c t (window_of p r)) (λ r. in_the_way p j r.run.job ≡ false) rs
        (λ r e open_now. off_way (takes_lock p j) (takes_lock p r.run.job) (same_group p j r.run.job) (not (both_share p j r.run.job))
        (calm.skip this_window (window_of p r) (cron_window p (going j t t) now_due.cron) skip
        (in_window p c b plan bounded t (going j t t) k.civil (fresh p b t j plan k.civil now_due.cron now_due.due)) open_now (other_window r e)))
        not_started (open_windows t js ws rs k)

    free_then : is_free p rs j ≡ true
    free_then = ap not (none_pass (λ r. in_the_way p j r.run.job) rs out_of_way)

  fresh_name : (h : History) → AreApart p (state_of p h) → (j : ℕ) → list_any (λ i. j == i) (pending p h) ≡ true → AllByRecursion (λ r. same_run (run_of j (now h)) r.run ≡ false) (running p h)
  fresh_name h n j due =
      let found = any_at (λ i. j == i) (λ i. AllByRecursion (λ r. same_run (run_of i (now h)) r.run ≡ false) (running p h)) (pending p h) due n.fresh in
      subst (λ i. AllByRecursion (λ r. same_run (run_of i (now h)) r.run ≡ false) (running p h)) (sym (eqb-true j found.0 found.1)) found.2

  no_skip_step : (h : History) → Kept p b (now h) (pending p h) (waiting p h) (running p h) → AreApart p (state_of p h) → IsCalm p c (now h) → (j : ℕ) → list_any (λ i. j == i) (pending p h) ≡ true → p.mode j ≡ Skip → (f : Bool) → is_free p (running p h) j ≡ f → (if f then Starts else when_held (p.mode j)) ≡ Skips → ⊥
  no_skip_step h k n calm j due is true e s = cc
  no_skip_step h k n calm j due is false e s = both_ways (is_free p (running p h) j) e (free_then (now h) (pending p h) (waiting p h) (running p h) k j (fresh_name h n j due) calm due is)

  no_skip : (h : History) (e : Event) → Kept p b (now h) (pending p h) (waiting p h) (running p h) → AreApart p (state_of p h) → IsCalm p c (now h) → IsLegal p (h ▸ e) → IsNoSkip p h e
  no_skip h (Minute t) k n calm legal = tt
  no_skip h (Begin j) k n calm legal = λ is. no_skip_step h k n calm j legal.1.is_pending is (is_free p (running p h) j) refl
  no_skip h (Got j d) k n calm legal = tt
  no_skip h (Catch j) k n calm legal = tt
  no_skip h (End r) k n calm legal = tt
  no_skip h (Down) k n calm legal = tt
  no_skip h (Up t) k n calm legal = tt

  before : (h : History) (e : Event) → IsInTime p (h ▸ e) → IsInTime p h
  before h (Minute t) time = time.0
  before h (Begin j) time = time
  before h (Got j d) time = time
  before h (Catch j) time = time
  before h (End r) time = time
  before h (Down) time = time
  before h (Up t) time = time.0

  names_apart : (h : History) → IsLegal p h → AreApart p (state_of p h)
  names_apart h legal = apart p (state_of p h) (named p h legal)

  pub safe : ((t : ℕ) → IsReached t → IsCalm p c t) → (h : History) → IsLegal p h → IsInTime p h → IsSafe p h
  safe calm (From s) legal time = let k = kept p c b plan bounded (From s) legal time in safe_now (From s) k (names_apart (From s) legal) (calm s.now k.civil)
  safe calm (h ▸ e) legal time =
      let k = kept p c b plan bounded h legal.0 (before h e time) in
      let n = kept p c b plan bounded (h ▸ e) legal time in
      (safe calm h legal.0 (before h e time), safe_now (h ▸ e) n (names_apart (h ▸ e) legal) (calm (now (h ▸ e)) n.civil), no_skip h e k (names_apart h legal.0) (calm (now h) k.civil) legal)

  weigh_one : (rs : List Going) → length rs ≤ total (λ (r : Going). p.weight r.run.job) rs
  weigh_one [] = omega arith
  weigh_one (r ∷ rs) = omega (arith, weigh_one rs, plan.weights r.run.job)

  pub few : (h : History) → IsSafeNow p h → length (running p h) ≤ p.capacity
  few h s = omega (arith, weigh_one (running p h), s.load)

  safe_last : (h : History) → IsSafe p h → IsSafeNow p h
  safe_last (From s) a = a
  safe_last (h ▸ e) a = a.1

  pub few_runs : ((t : ℕ) → IsReached t → IsCalm p c t) → (h : History) → IsLegal p h → IsInTime p h → length (running p h) ≤ p.capacity
  few_runs calm h legal time = few h (safe_last h (safe calm h legal time))
