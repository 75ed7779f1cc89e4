-- Each event keeps what a core keeps.
use Rattle.std.proofs.Common.{ℕ, ◌≤◌, ◌≡◌, Bool, true, false, not, ◌&&◌, ◌||◌, if◌then◌else◌, List, [], ◌∷◌, ◌++◌, Option, None, Some, filter, refl, sym, ap, subst, ◌∙◌, ◌==◌, arith, nat_lt, nat_le, ◌%◌, ◌/◌, get_or, ◌-◌}
use Rattle.std.specs.List.{AllByRecursion, list_any, remove}
use Rattle.std.specs.Option.{is_some}
use Rattle.std.proofs.lemmas.Bool.{and_parts, both_ways, lt-ltb, eqb-true, false_from_ne_true, not-true, not-false}
use Rattle.cs_history.specs.History.{Answer, Starts, Waits, Skips, answer, is_free, when_held, going, opened, owed_at, Pass, pass_of, run_of, same_run, with_started, with_waiting, without_first}
use Rattle.cs_history.specs.Lists.{number_of}
use Rattle.cs_history.specs.Names.{AreNamed, jobs_left}
use Rattle.cs_history.specs.Plan.{Plan, IsPlan, by_delay, is_cron, shares, takes as takes_by, takes_lock}
use Rattle.cs_history.specs.declared.mode.Mode.{Mode}
use Rattle.cs_history.specs.declared.mode.Mode.TheVariants.{Plain, Skip, Try, Wait, Shared}
use Rattle.cs_locks.proofs.PlanHolds.{takes_hold}
use Rattle.cs_history.specs.Step.{State, after, is_catchable, is_turn, refusal}
use Rattle.cs_history.specs.declared.event.Event.TheVariants.{Minute, Begin, Got, Catch, End, Down, Up}
use Rattle.cs_history.specs.declared.run.Run.{Run}
use Rattle.cs_history.specs.declared.run.Going.{Going}
use Rattle.cs_history.proofs.Lists.{all_map, any_at, none_pass, none_passes, one, total_without, all-filter, all_push}
use Rattle.cs_history.proofs.Names.{IsAnacron, due_of, eq_term, listed, named_step, not_same, one_same, run_is, run_term, same_parts}
use Rattle.cs_history.proofs.Steps.{passed, turn_if}
use Rattle.cs_locks.specs.Locks.{Counts, IsCounted, hold_in, hold_of, is_listed, takes}
use Rattle.cs_roster.specs.Roster.{has, others}
use Rattle.cs_core.specs.Standing.{IsKept, IsLone, going_holds, is_job, owed_beside, state_in, waiting_holds}
use Rattle.cs_core.proofs.Runs.{any_others, any_push, none_counted, none_named, one_less}

other_job : (p : Plan) (i j : ℕ) → is_cron p i ≡ true → is_cron p j ≡ false → (i == j) ≡ false
other_job p i j cron anacron = false_from_ne_true (i == j) (λ e. both_ways (is_cron p j) anacron (ap (is_cron p) (sym (eqb-true i j e)) ∙ cron))

or_false : (a b : Bool) → b ≡ false → (a || b) ≡ a
or_false true b e = refl
or_false false b e = e

or_true : (a b : Bool) → b ≡ true → (a || b) ≡ true
or_true true b e = refl
or_true false b e = e

module _ (p : Plan) (runs : List Going) where
  -- a run of a cron job starts, and ends
  cron_starts : (lone : Option ℕ) (r : Going) → is_cron p r.run.job ≡ true → IsLone p runs lone → IsLone p (runs ++ r ∷ []) lone
  cron_starts job r cron k = record {
    any = any_push (λ (x : Going). not (is_cron p x.run.job)) runs r ∙ or_false _ _ (ap not cron) ∙ k.any;
    which = λ j anacron. any_push (λ (x : Going). x.run.job == j) runs r ∙ or_false _ _ (other_job p r.run.job j cron anacron) ∙ k.which j anacron;
  }

  cron_ends : (lone : Option ℕ) (r : Run) → is_cron p r.job ≡ true → IsLone p runs lone → IsLone p (others runs r) lone
  cron_ends job r cron k = record {
    any = any_others (λ q. not (is_cron p q.job)) r runs (ap not cron) ∙ k.any;
    which = λ j anacron. any_others (λ q. q.job == j) r runs (other_job p r.job j cron anacron) ∙ k.which j anacron;
  }

  -- one of an anacron job starts where none runs, and ends
  is_none : (lone : Option ℕ) → is_some lone ≡ false → lone ≡ None
  is_none None e = refl
  is_none (Some j) e = absurd (both_ways true e refl)

  anacron_starts : (lone : Option ℕ) (r : Going) → is_cron p r.run.job ≡ false → list_any (λ x. not (is_cron p x.run.job)) runs ≡ false → IsLone p runs lone → IsLone p (runs ++ r ∷ []) (Some r.run.job)
  anacron_starts job r anacron alone k =
      let none : job ≡ None = is_none job (sym k.any ∙ alone) in
      record {
        any = any_push (λ (x : Going). not (is_cron p x.run.job)) runs r ∙ or_true _ _ (ap not anacron);
        which = λ j other. any_push (λ (x : Going). x.run.job == j) runs r ∙ ap (λ (b : Bool). b || (r.run.job == j)) (k.which j other ∙ ap (λ (o : Option ℕ). is_job o j) none);
      }

  anacron_ends : (r : Run) → is_cron p r.job ≡ false → number_of (λ x. same_run r x.run) runs ≤ 1 → has runs r ≡ true → number_of (λ x. not (is_cron p x.run.job)) runs ≤ 1 → IsLone p (others runs r) None
  anacron_ends r anacron once there lone =
      let less = one_less (λ q. not (is_cron p q.job)) r runs once there in
      let here : one (not (is_cron p r.job)) ≡ 1 = ap (λ (b : Bool). one (not b)) anacron in
      let none : AllByRecursion (λ x. not (is_cron p x.run.job) ≡ false) (others runs r) = none_counted (λ (x : Going). not (is_cron p x.run.job)) (others runs r) (omega (arith, less, here, lone)) in
      record {
        any = none_pass (λ (x : Going). not (is_cron p x.run.job)) (others runs r) none;
        which = λ j other. none_pass (λ (x : Going). x.run.job == j) (others runs r) (all_map (λ (x : Going). not (is_cron p x.run.job) ≡ false) (λ (x : Going). (x.run.job == j) ≡ false) (others runs r) (λ x cron. other_job p x.run.job j (not-false (is_cron p x.run.job) cron) other) none);
      }

-- what a pass has

same_filter : {X : Type 0} (t u : X → Bool) (xs : List X) → AllByRecursion (λ x. t x ≡ u x) xs → filter t xs ≡ filter u xs
same_filter t u [] a = refl
same_filter t u (x ∷ xs) a = rw (a.0, same_filter t u xs a.1) refl

pub owed_is : (p : Plan) (ss : List (Option ℕ)) (runs : List Going) (lone : Option ℕ) (t : ℕ) → IsLone p runs lone → owed_beside p ss lone t ≡ owed_at p ss runs t
owed_is p ss runs lone t k =
    same_filter (λ j. p.owed j (get_or ss (j - p.crons) None) (t / 1440) && not (is_job lone j)) (λ j. p.owed j (get_or ss (j - p.crons) None) (t / 1440) && not (list_any (λ r. r.run.job == j) runs)) (by_delay p)
    (all_map (IsAnacron p) _ (by_delay p) (λ j h. ap (λ (b : Bool). p.owed j (get_or ss (j - p.crons) None) (t / 1440) && not b) (sym (k.which j h.0))) (listed p p.jobs (omega arith)))

all_listed : (p : Plan) → IsPlan p → p.groups ≤ 64 → (j : ℕ) → is_listed (hold_of p j) ≡ true
all_listed p plan few j = by (takes_lock p j) (shares p j) (p.group j) refl
  where
    of_group : (a b : Bool) (g : ℕ) → nat_lt g 64 ≡ true → is_listed (hold_in a b (Some g)) ≡ true
    of_group false true g low = refl
    of_group false false g low = refl
    of_group true true g low = low
    of_group true false g low = low

    by : (a b : Bool) (o : Option ℕ) → p.group j ≡ o → is_listed (hold_in a b o) ≡ true
    by true true None e = refl
    by true false None e = refl
    by false true None e = refl
    by false false None e = refl
    by a b (Some g) e = let low = plan.groups j g e in of_group a b g (lt-ltb g 64 (omega (arith, low, few)))

-- nothing runs or waits at a start
pub kept_start : (p : Plan) (now : ℕ) (up : Bool) (ss : List (Option ℕ)) (held wanted : Counts) → IsPlan p → p.groups ≤ 64 → IsCounted [] held → IsCounted [] wanted → IsKept p (state_in now up [] [] [] ss None) held wanted None
kept_start p now up ss held wanted plan few none no_one = record {
  named = record { once = λ n. omega arith; runs_past = tt; waits_past = tt; pending = tt; waiting = tt; pass = tt; lone = omega arith };
  runs = none;
  waits = no_one;
  plan = plan;
  takers = tt;
  listed = all_listed p plan few;
  lone = record { any = refl; which = λ j anacron. refl };
}

module _ (p : Plan) (s : State) (held wanted : Counts) (lone : Option ℕ) (k : IsKept p s held wanted lone) where
  pub kept_minute : (t : ℕ) → refusal p s (Minute t) ≡ None → IsKept p (after p s (Minute t)) held wanted lone
  kept_minute t may = record { named = named_step p s (Minute t) may k.named; runs = k.runs; waits = k.waits; plan = k.plan; takers = k.takers; listed = k.listed; lone = k.lone }

  pub kept_up : (t : ℕ) (none : Counts) → refusal p s (Up t) ≡ None → IsCounted [] none → IsKept p (after p s (Up t)) held none lone
  kept_up t none may clear = record { named = named_step p s (Up t) may k.named; runs = k.runs; waits = clear; plan = k.plan; takers = tt; listed = k.listed; lone = k.lone }

  pub kept_down : (none : Counts) → refusal p s Down ≡ None → IsCounted [] none → IsKept p (after p s Down) held none lone
  kept_down none may clear = record { named = named_step p s Down may k.named; runs = k.runs; waits = clear; plan = k.plan; takers = tt; listed = k.listed; lone = k.lone }

  module _ (j : ℕ) (may : refusal p s (Begin j) ≡ None) where
    is_pending : list_any (λ i. j == i) s.pending ≡ true
    is_pending = (passed _ _ _ (passed s.up _ _ may).1).0

    begin_cron : is_cron p j ≡ true
    begin_cron = let found = any_at (λ i. j == i) (λ i. is_cron p i ≡ true) s.pending is_pending k.named.pending in ap (is_cron p) (eqb-true j found.0 found.1) ∙ found.2

    -- the name that the job's run has now is pending, so no other run has it
    due_now : 1 ≤ number_of (λ i. same_run (run_of j s.now) (run_of i s.now)) s.pending
    due_now = omega (arith, one_same (run_of j s.now), total_without (λ i. j == i) (due_of (run_of j s.now) s.now) (due_of (run_of j s.now) s.now j) s.pending (eq_term (due_of (run_of j s.now) s.now) j) is_pending)

    pub begin_new : list_any (λ x. same_run (run_of j s.now) x.run) s.running ≡ false
    begin_new = none_named (λ (x : Going). x.run) (run_of j s.now) s.running (omega (arith, k.named.once (run_of j s.now), due_now))

    pub begin_not_waiting : list_any (λ w. same_run (run_of j s.now) w) s.waiting ≡ false
    begin_not_waiting = none_named (λ (w : Run). w) (run_of j s.now) s.waiting (omega (arith, k.named.once (run_of j s.now), due_now))

    abbrev pub begun : Answer → State
    begun a = record s { pending = filter (λ i. not (j == i)) s.pending; waiting = with_waiting a s.waiting (run_of j s.now); running = with_started a s.running (going j s.now s.now) }

    begun_named : (a : Answer) → answer p s.running j ≡ a → AreNamed p (begun a)
    begun_named a is = subst (λ (b : Answer). AreNamed p (begun b)) is (named_step p s (Begin j) may k.named)

    pub kept_run : (more : Counts) → answer p s.running j ≡ Starts → IsCounted (going_holds p (s.running ++ going j s.now s.now ∷ [])) more → IsKept p (begun Starts) more wanted lone
    kept_run more is counted = record { named = begun_named Starts is; runs = counted; waits = k.waits; plan = k.plan; takers = k.takers; listed = k.listed; lone = cron_starts p s.running lone (going j s.now s.now) begin_cron k.lone }

    pub kept_waiting : (more : Counts) → answer p s.running j ≡ Waits → takes (hold_of p j) ≡ true → IsCounted (waiting_holds p (s.waiting ++ run_of j s.now ∷ [])) more → IsKept p (begun Waits) held more lone
    kept_waiting more is takes_it counted = record { named = begun_named Waits is; runs = k.runs; waits = counted; plan = k.plan; takers = all_push (λ (w : Run). takes (hold_of p w.job) ≡ true) s.waiting (run_of j s.now) k.takers takes_it; listed = k.listed; lone = k.lone }

    pub kept_skipped : answer p s.running j ≡ Skips → IsKept p (begun Skips) held wanted lone
    kept_skipped is = record { named = begun_named Skips is; runs = k.runs; waits = k.waits; plan = k.plan; takers = k.takers; listed = k.listed; lone = k.lone }

  module _ (r : Run) (may : refusal p s (Got r.job r.at) ≡ None) where
    pub waits_now : list_any (same_run r) s.waiting ≡ true
    waits_now = (passed _ _ _ (passed s.up _ _ may).1).0

    got_cron : is_cron p r.job ≡ true
    got_cron = let found = any_at (same_run r) (λ w. is_cron p w.job ≡ true) s.waiting waits_now k.named.waiting in ap (λ (q : Run). is_cron p q.job) (run_is r found.0 found.1) ∙ found.2

    one_waits : 1 ≤ number_of (λ w. same_run r w) s.waiting
    one_waits = omega (arith, one_same r, total_without (same_run r) (λ (w : Run). one (same_run r w)) (one (same_run r r)) s.waiting (run_term (λ w. one (same_run r w)) r) waits_now)

    pub got_new : list_any (λ x. same_run r x.run) s.running ≡ false
    got_new = none_named (λ (x : Going). x.run) r s.running (omega (arith, k.named.once r, one_waits))

    pub kept_got : (more less : Counts) → IsCounted (going_holds p (s.running ++ going r.job r.at s.now ∷ [])) more → IsCounted (waiting_holds p (filter (λ w. not (same_run r w)) s.waiting)) less → IsKept p (after p s (Got r.job r.at)) more less lone
    kept_got more less counted left = record { named = named_step p s (Got r.job r.at) may k.named; runs = counted; waits = left; plan = k.plan; takers = all-filter (λ (w : Run). takes (hold_of p w.job) ≡ true) (λ w. not (same_run r w)) s.waiting k.takers; listed = k.listed; lone = cron_starts p s.running lone (going r.job r.at s.now) got_cron k.lone }

  module _ (j : ℕ) (may : refusal p s (Catch j) ≡ None) where
    catchable : (is_turn p s.now s.pass j ≡ true) × (list_any (λ r. not (is_cron p r.run.job)) s.running ≡ false)
    catchable =
        let turn = is_turn p s.now s.pass j in
        let alone = not (list_any (λ r. not (is_cron p r.run.job)) s.running) in
        let from = nat_le p.from (s.now % 1440) in
        let all = (passed (is_catchable p s j) _ _ (passed s.up _ _ may).1).0 in
        let two = and_parts (turn && alone) from (and_parts (turn && alone && from) (nat_lt (s.now % 1440) p.to) all).0 in
        let both = and_parts turn alone two.0 in
        (both.0, not-true _ both.1)

    catch_anacron : is_cron p j ≡ false
    catch_anacron =
        let left = turn_if p s.now s.pass j catchable.0 in
        let all : AllByRecursion (IsAnacron p) (j ∷ left.1) = subst (λ o. AllByRecursion (IsAnacron p) (jobs_left o)) left.2 k.named.pass in
        all.0.0

    pub catch_new : list_any (λ x. same_run (run_of j s.now) x.run) s.running ≡ false
    catch_new = none_pass (λ (x : Going). same_run (run_of j s.now) x.run) s.running (all_map (λ (x : Going). not (is_cron p x.run.job) ≡ false) (λ (x : Going). same_run (run_of j s.now) x.run ≡ false) s.running
        (λ x cron. not_same p (run_of j s.now) x.run false catch_anacron (not-false (is_cron p x.run.job) cron)) (none_passes (λ (x : Going). not (is_cron p x.run.job)) s.running catchable.1))

    pub kept_catch : (more : Counts) → IsCounted (going_holds p (s.running ++ going j s.now s.now ∷ [])) more → IsKept p (after p s (Catch j)) more wanted (Some j)
    kept_catch more counted = record { named = named_step p s (Catch j) may k.named; runs = counted; waits = k.waits; plan = k.plan; takers = k.takers; listed = k.listed; lone = anacron_starts p s.running lone (going j s.now s.now) catch_anacron catchable.1 k.lone }

  module _ (r : Run) (may : refusal p s (End r) ≡ None) where
    pub end_there : has s.running r ≡ true
    end_there = (passed _ _ _ may).0

    pub end_past : r.at ≤ s.now
    end_past = let found = any_at (λ x. same_run r x.run) (λ x. x.run.at ≤ s.now) s.running end_there k.named.runs_past in subst (λ t. t ≤ s.now) (sym (same_parts r found.0.run found.1).1) found.2

    pub end_once : number_of (λ x. same_run r x.run) s.running ≤ 1
    end_once = omega (arith, k.named.once r)

    pub kept_cron : (less : Counts) → is_cron p r.job ≡ true → IsCounted (going_holds p (others s.running r)) less → IsKept p (after p s (End r)) less wanted lone
    kept_cron less cron counted = record { named = named_step p s (End r) may k.named; runs = counted; waits = k.waits; plan = k.plan; takers = k.takers; listed = k.listed; lone = cron_ends p s.running lone r cron k.lone }

    pub kept_anacron : (less : Counts) → is_cron p r.job ≡ false → IsCounted (going_holds p (others s.running r)) less → IsKept p (after p s (End r)) less wanted None
    kept_anacron less anacron counted = record { named = named_step p s (End r) may k.named; runs = counted; waits = k.waits; plan = k.plan; takers = k.takers; listed = k.listed; lone = anacron_ends p s.running r anacron end_once end_there k.named.lone }

pub waits_take : (p : Plan) (rs : List Going) (j : ℕ) → IsPlan p → answer p rs j ≡ Waits → takes (hold_of p j) ≡ true
waits_take p rs j plan is =
    let taking = of_mode (p.mode j) (of_answer (is_free p rs j) (p.mode j) is) in
    let group = plan.lock_has_group j taking in
    takes_hold p j group.0 taking group.1
  where
    of_answer : (b : Bool) (m : Mode) → (if b then Starts else when_held m) ≡ Waits → when_held m ≡ Waits
    of_answer true m e = absurd (cc)
    of_answer false m e = e

    of_mode : (m : Mode) → when_held m ≡ Waits → takes_by m ≡ true
    of_mode Plain e = absurd (cc)
    of_mode Skip e = absurd (cc)
    of_mode Try e = absurd (cc)
    of_mode Wait e = refl
    of_mode Shared e = refl

pub pass_removed : (t : ℕ) (js : List ℕ) → pass_of t (remove js 0) ≡ without_first (pass_of t js)
pass_removed t [] = refl
pass_removed t (j ∷ js) = refl

pub not_opened : (o n : Option Pass) → opened o false n ≡ o
not_opened None n = refl
not_opened (Some o) n = refl
