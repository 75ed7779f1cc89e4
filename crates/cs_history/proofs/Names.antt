-- Each event keeps names apart.
use Rattle.std.proofs.Common.{ℕ, zero, suc, ◌+◌, ◌%◌, ◌<◌, ◌≤◌, ◌≡◌, Bool, true, false, not, ◌&&◌, if◌then◌else◌, List, [], ◌∷◌, ◌++◌, filter, refl, sym, ap, ◌∙◌, subst, arith, ◌==◌, Option, Some, None, nat_lt, nat_le}
use Rattle.std.specs.List.{AllByRecursion, list_any}
use Rattle.std.proofs.lemmas.Bool.{and_parts, and_from, eqb-true, eq-eqb, lt-ltb, leb-true, not-false, not-true, false_from_ne_true, both_ways}
use Rattle.cs_history.specs.Lists.{placed, total, EachPair, below, number_of}
use Rattle.cs_history.specs.Plan.{Plan, is_cron, is_sooner, placed_below, by_delay, due_at}
use Rattle.cs_history.specs.History.{History, From, ◌▸◌, Start, going, run_of, same_run, Answer, Starts, Waits, Skips, answer, with_started, with_waiting, Pass, pass_of, opened, owed_at, without_first, IsLegal}
use Rattle.cs_history.specs.Step.{State, state_of, after, refusal, is_civil, is_turn, is_catchable}
use Rattle.cs_history.specs.Names.{jobs_left, AreNamed, AreApart}
use Rattle.cs_history.specs.declared.run.Run.{Run}
use Rattle.cs_history.specs.declared.run.Going.{Going}
use Rattle.cs_history.specs.declared.event.Event.{Event}
use Rattle.cs_history.specs.declared.event.Event.TheVariants.{Minute, Begin, Got, Catch, End, Down, Up}
use Rattle.cs_history.proofs.Lists.{one, all_map, all_zip, all_any, all_push, all-filter, all_below, none_passes, any_at, total_push, total-filter, total_without, total_zero, once_below}
use Rattle.cs_history.proofs.Steps.{passed, turn_if, if_legal, stands}

pub same_parts : (r q : Run) → same_run r q ≡ true → (r.job ≡ q.job) × (r.at ≡ q.at)
same_parts r q e = let h = and_parts (r.job == q.job) (r.at == q.at) e in (eqb-true r.job q.job h.0, eqb-true r.at q.at h.1)

pub same_from : (r q : Run) → r.job ≡ q.job → r.at ≡ q.at → same_run r q ≡ true
same_from r q a b = and_from (r.job == q.job) (r.at == q.at) (eq-eqb r.job q.job a) (eq-eqb r.at q.at b)

pub run_is : (r q : Run) → same_run r q ≡ true → r ≡ q
run_is r q e = let h = same_parts r q e in λ i. record { job = h.0 i; at = h.1 i }

-- runs of different kinds differ
pub not_same : (p : Plan) (n r : Run) (s : Bool) → is_cron p n.job ≡ s → is_cron p r.job ≡ not s → same_run n r ≡ false
not_same p n r true a c = false_from_ne_true (same_run n r) (λ e. both_ways (is_cron p r.job) c (ap (is_cron p) (sym (same_parts n r e).0) ∙ a))
not_same p n r false a c = false_from_ne_true (same_run n r) (λ e. both_ways (is_cron p n.job) a (ap (is_cron p) (same_parts n r e).0 ∙ c))

at_most_one : (s : Bool) → one s ≤ 1
at_most_one true = omega arith
at_most_one false = omega arith

pub one_no : (b : Bool) → b ≡ false → one b ≡ 0
one_no b e = ap one e

-- how often a name occurs among what is pending at minute t
abbrev pub due_of : Run → ℕ → ℕ → ℕ
due_of n t j = one (same_run n (run_of j t))

pub eq_term : (f : ℕ → ℕ) (j i : ℕ) → (j == i) ≡ true → f j ≤ f i
eq_term f j i e = let h : f j ≡ f i = ap f (eqb-true j i e) in omega (arith, h)

pub run_term : (f : Run → ℕ) (r q : Run) → same_run r q ≡ true → f r ≤ f q
run_term f r q e = let h : f r ≡ f q = ap f (run_is r q e) in omega (arith, h)

-- a pass lists anacron jobs

abbrev pub IsAnacron : Plan → ℕ → Type 0
IsAnacron p j = (is_cron p j ≡ false) × (j < p.jobs)

abbrev pub AreAnacron : Plan → List ℕ → Type 0
AreAnacron p js = AllByRecursion (IsAnacron p) js

of_list : (p : Plan) (t : ℕ) (js : List ℕ) → AreAnacron p js → AreAnacron p (jobs_left (pass_of t js))
of_list p t [] a = tt
of_list p t (j ∷ js) a = a

of_opened : (p : Plan) (o n : Option Pass) (s : Bool) → AreAnacron p (jobs_left o) → AreAnacron p (jobs_left n) → AreAnacron p (jobs_left (opened o s n))
of_opened p (Some o) n s a b = a
of_opened p None n true a b = b
of_opened p None n false a b = tt

of_rest : (p : Plan) (o : Option Pass) → AreAnacron p (jobs_left o) → AreAnacron p (jobs_left (without_first o))
of_rest p None a = tt
of_rest p (Some o) a = go o.left a
  where
    go : (js : List ℕ) → AreAnacron p js → AreAnacron p (jobs_left (elim js [ [] ↦ None | j ∷ js ↦ pass_of o.at js ]))
    go [] a = tt
    go (j ∷ js) a = of_list p o.at js a.1

pub all_placed : {X : Type 0} (P : X → Type 0) (before : X → X → Bool) (x : X) → P x → (ys : List X) → AllByRecursion P ys → AllByRecursion P (placed before x ys)
all_placed P before x q [] a = (q, tt)
all_placed {X} P before x q (y ∷ ys) a = go (before x y) (all_placed P before x q ys a.1)
  where
    go : (s : Bool) → AllByRecursion P (placed before x ys) → AllByRecursion P (if s then x ∷ y ∷ ys else y ∷ placed before x ys)
    go true r = (q, a)
    go false r = (a.0, r)

listed_step : (p : Plan) (n : ℕ) → n < p.jobs → AreAnacron p (placed_below p n) → (s : Bool) → nat_lt n p.crons ≡ s → AreAnacron p (if s then [] else placed (is_sooner p) n (placed_below p n))
listed_step p n l a true e = tt
listed_step p n l a false e = all_placed (IsAnacron p) (is_sooner p) n (e, l) (placed_below p n) a

pub listed : (p : Plan) (n : ℕ) → n ≤ p.jobs → AreAnacron p (placed_below p n)
listed p zero l = tt
listed p (suc n) l = listed_step p n (omega (arith, l)) (listed p n (omega (arith, l))) (nat_lt n p.crons) refl

pub of_owed : (p : Plan) (ss : List (Option ℕ)) (rs : List Going) (t : ℕ) → AreAnacron p (jobs_left (pass_of t (owed_at p ss rs t)))
of_owed p ss rs t = of_list p t (owed_at p ss rs t) (all-filter (IsAnacron p) _ (by_delay p) (listed p p.jobs (omega arith)))

due_cron : (p : Plan) (t : ℕ) → AllByRecursion (λ j. is_cron p j ≡ true) (due_at p t)
due_cron p t = all-filter (λ j. is_cron p j ≡ true) (λ j. p.due j t) (below p.crons) (all_map (λ j. j < p.crons) (λ j. is_cron p j ≡ true) (below p.crons) (λ j h. lt-ltb j p.crons h) (all_below p.crons))

module _ (p : Plan) (s : State) (k : AreNamed p s) where
  -- a Begin, whatever it leads to
  begin_named : (j : ℕ) → list_any (λ i. j == i) s.pending ≡ true → (a : Answer) → AreNamed p (record s {
    pending = filter (λ i. not (j == i)) s.pending;
    waiting = with_waiting a s.waiting (run_of j s.now);
    running = with_started a s.running (going j s.now s.now);
  })
  begin_named j e a =
      let found = any_at (λ i. j == i) (λ i. is_cron p i ≡ true) s.pending e k.pending in
      let cron : is_cron p j ≡ true = ap (is_cron p) (eqb-true j found.0 found.1) ∙ found.2 in
      let rest = all-filter (λ i. is_cron p i ≡ true) (λ i. not (j == i)) s.pending k.pending in
      let fewer = λ (n : Run). total_without (λ i. j == i) (due_of n s.now) (due_of n s.now j) s.pending (eq_term (due_of n s.now) j) e in
      go a cron rest fewer
    where
      go : (a : Answer) → is_cron p j ≡ true → AllByRecursion (λ i. is_cron p i ≡ true) (filter (λ i. not (j == i)) s.pending)
          → ((n : Run) → total (due_of n s.now) (filter (λ i. not (j == i)) s.pending) + due_of n s.now j ≤ total (due_of n s.now) s.pending)
          → AreNamed p (record s { pending = filter (λ i. not (j == i)) s.pending; waiting = with_waiting a s.waiting (run_of j s.now); running = with_started a s.running (going j s.now s.now) })
      go Starts cron rest fewer = record {
        once = λ n. omega (arith, k.once n, fewer n, total_push (λ (r : Going). one (same_run n r.run)) s.running (going j s.now s.now));
        runs_past = all_push (λ (r : Going). r.run.at ≤ s.now) s.running (going j s.now s.now) k.runs_past (omega arith);
        waits_past = k.waits_past;
        pending = rest;
        waiting = k.waiting;
        pass = k.pass;
        lone = omega (arith, k.lone, total_push (λ (r : Going). one (not (is_cron p r.run.job))) s.running (going j s.now s.now), one_no (not (is_cron p j)) (ap not cron));
      }
      go Waits cron rest fewer = record {
        once = λ n. omega (arith, k.once n, fewer n, total_push (λ (w : Run). one (same_run n w)) s.waiting (run_of j s.now));
        runs_past = k.runs_past;
        waits_past = all_push (λ (w : Run). w.at ≤ s.now) s.waiting (run_of j s.now) k.waits_past (omega arith);
        pending = rest;
        waiting = all_push (λ (w : Run). is_cron p w.job ≡ true) s.waiting (run_of j s.now) k.waiting cron;
        pass = k.pass;
        lone = k.lone;
      }
      go Skips cron rest fewer = record {
        once = λ n. omega (arith, k.once n, fewer n);
        runs_past = k.runs_past;
        waits_past = k.waits_past;
        pending = rest;
        waiting = k.waiting;
        pass = k.pass;
        lone = k.lone;
      }

  got_named : (w : Run) → list_any (same_run w) s.waiting ≡ true → AreNamed p (record s { waiting = filter (λ v. not (same_run w v)) s.waiting; running = s.running ++ going w.job w.at s.now ∷ [] })
  got_named w e =
      let r : Going = going w.job w.at s.now in
      let found = any_at (same_run w) (λ v. (v.at ≤ s.now) × (is_cron p v.job ≡ true)) s.waiting e (all_zip (λ v. v.at ≤ s.now) (λ v. is_cron p v.job ≡ true) (λ v. (v.at ≤ s.now) × (is_cron p v.job ≡ true)) s.waiting (λ v a b. (a, b)) k.waits_past k.waiting) in
      let was : (w.at ≤ s.now) × (is_cron p w.job ≡ true) = subst (λ (v : Run). (v.at ≤ s.now) × (is_cron p v.job ≡ true)) (sym (run_is w found.0 found.1)) found.2 in
      record {
        once = λ n. omega (
          arith,
          k.once n,
          total_push (λ (q : Going). one (same_run n q.run)) s.running r,
          total_without (same_run w) (λ (v : Run). one (same_run n v)) (one (same_run n w)) s.waiting (run_term (λ v. one (same_run n v)) w) e,
        );
        runs_past = all_push (λ (q : Going). q.run.at ≤ s.now) s.running r k.runs_past was.0;
        waits_past = all-filter (λ (v : Run). v.at ≤ s.now) (λ v. not (same_run w v)) s.waiting k.waits_past;
        pending = k.pending;
        waiting = all-filter (λ (v : Run). is_cron p v.job ≡ true) (λ v. not (same_run w v)) s.waiting k.waiting;
        pass = k.pass;
        lone = omega (arith, k.lone, total_push (λ (q : Going). one (not (is_cron p q.run.job))) s.running r, one_no (not (is_cron p w.job)) (ap not was.1));
      }

  none_waits : (n : Run) → is_cron p n.job ≡ false → total (λ (w : Run). one (same_run n w)) s.waiting ≡ 0
  none_waits n e = total_zero (λ (w : Run). one (same_run n w)) s.waiting (all_map (λ w. is_cron p w.job ≡ true) (λ w. one (same_run n w) ≡ 0) s.waiting (λ w c. one_no (same_run n w) (not_same p n w false e c)) k.waiting)

  none_due : (n : Run) → is_cron p n.job ≡ false → total (due_of n s.now) s.pending ≡ 0
  none_due n e = total_zero (due_of n s.now) s.pending (all_map (λ j. is_cron p j ≡ true) (λ j. due_of n s.now j ≡ 0) s.pending (λ j c. one_no (same_run n (run_of j s.now)) (not_same p n (run_of j s.now) false e c)) k.pending)

  module _ (j : ℕ) (anacron : is_cron p j ≡ false) (alone : list_any (λ r. not (is_cron p r.run.job)) s.running ≡ false) where
    abbrev caught : Going
    caught = going j s.now s.now

    none_runs : (n : Run) → is_cron p n.job ≡ false → total (λ (r : Going). one (same_run n r.run)) s.running ≡ 0
    none_runs n e = total_zero (λ (r : Going). one (same_run n r.run)) s.running (all_map (λ r. not (is_cron p r.run.job) ≡ false) (λ r. one (same_run n r.run) ≡ 0) s.running (λ r c. one_no (same_run n r.run) (not_same p n r.run false e (not-false (is_cron p r.run.job) c))) (none_passes (λ r. not (is_cron p r.run.job)) s.running alone))

    catch_once : (n : Run) (c : Bool) → is_cron p n.job ≡ c → number_of (λ r. same_run n r.run) (s.running ++ caught ∷ []) + number_of (λ w. same_run n w) s.waiting + number_of (λ i. same_run n (run_of i s.now)) s.pending ≤ 1
    catch_once n true e = omega (arith, k.once n, total_push (λ (r : Going). one (same_run n r.run)) s.running (going j s.now s.now), one_no (same_run n (run_of j s.now)) (not_same p n (run_of j s.now) true e anacron))
    catch_once n false e = omega (arith, none_waits n e, none_due n e, none_runs n e, total_push (λ (r : Going). one (same_run n r.run)) s.running (going j s.now s.now), at_most_one (same_run n (run_of j s.now)))

    catch_named : AreNamed p (record s { running = s.running ++ caught ∷ []; pass = without_first s.pass })
    catch_named = record {
      once = λ n. catch_once n (is_cron p n.job) refl;
      runs_past = all_push (λ (r : Going). r.run.at ≤ s.now) s.running (going j s.now s.now) k.runs_past (omega arith);
      waits_past = k.waits_past;
      pending = k.pending;
      waiting = k.waiting;
      pass = of_rest p s.pass k.pass;
      lone = let z = total_zero (λ (r : Going). one (not (is_cron p r.run.job))) s.running (all_map (λ r. not (is_cron p r.run.job) ≡ false) (λ r. one (not (is_cron p r.run.job)) ≡ 0) s.running (λ r c. one_no (not (is_cron p r.run.job)) c) (none_passes (λ r. not (is_cron p r.run.job)) s.running alone)) in
          omega (arith, z, total_push (λ (r : Going). one (not (is_cron p r.run.job))) s.running (going j s.now s.now), at_most_one (not (is_cron p j)));
    }

  end_named : (f : Going → Bool) (ss : List (Option ℕ)) → AreNamed p (record s { running = filter f s.running; stamps = ss })
  end_named f ss = record {
    once = λ n. omega (arith, k.once n, total-filter f (λ (r : Going). one (same_run n r.run)) s.running);
    runs_past = all-filter (λ (r : Going). r.run.at ≤ s.now) f s.running k.runs_past;
    waits_past = k.waits_past;
    pending = k.pending;
    waiting = k.waiting;
    pass = k.pass;
    lone = omega (arith, k.lone, total-filter f (λ (r : Going). one (not (is_cron p r.run.job))) s.running);
  }

  down_named : AreNamed p (record s { up = false; pending = []; waiting = []; pass = None })
  down_named = record {
    once = λ n. omega (arith, k.once n);
    runs_past = k.runs_past;
    waits_past = tt;
    pending = tt;
    waiting = tt;
    pass = tt;
    lone = k.lone;
  }

  module _ (t : ℕ) (later : s.now ≤ t) where
    runs_later : AllByRecursion (λ r. r.run.at ≤ t) s.running
    runs_later = all_map (λ (r : Going). r.run.at ≤ s.now) (λ (r : Going). r.run.at ≤ t) s.running (λ r l. omega (arith, l, later)) k.runs_past

    up_named : (u : Bool) → AreNamed p (record s { now = t; up = true; pending = []; waiting = []; pass = opened s.pass u (pass_of t (owed_at p s.stamps s.running t)) })
    up_named u = record {
      once = λ n. omega (arith, k.once n);
      runs_past = runs_later;
      waits_past = tt;
      pending = tt;
      waiting = tt;
      pass = of_opened p s.pass _ u k.pass (of_owed p s.stamps s.running t);
      lone = k.lone;
    }

  -- the next minute
  module _ (t : ℕ) (next : t ≡ s.now + 1) where
    not_yet_running : (n : Run) → n.at ≡ t → total (λ (r : Going). one (same_run n r.run)) s.running ≡ 0
    not_yet_running n e = total_zero (λ (r : Going). one (same_run n r.run)) s.running (all_map (λ r. r.run.at ≤ s.now) (λ r. one (same_run n r.run) ≡ 0) s.running
        (λ r q. one_no (same_run n r.run) (false_from_ne_true (same_run n r.run) (λ h. let x = (same_parts n r.run h).1 in absurd (omega (arith, x, e, q, next))))) k.runs_past)

    not_yet_waiting : (n : Run) → n.at ≡ t → total (λ (w : Run). one (same_run n w)) s.waiting ≡ 0
    not_yet_waiting n e = total_zero (λ (w : Run). one (same_run n w)) s.waiting (all_map (λ w. w.at ≤ s.now) (λ w. one (same_run n w) ≡ 0) s.waiting
        (λ w q. one_no (same_run n w) (false_from_ne_true (same_run n w) (λ h. let x = (same_parts n w h).1 in absurd (omega (arith, x, e, q, next))))) k.waits_past)

    pub due_once : (n : Run) → total (due_of n t) (due_at p t) ≤ 1
    due_once n =
        let h = (once_below (due_of n t) n.job (λ j other. one_no (same_run n (run_of j t)) (false_from_ne_true (same_run n (run_of j t)) (λ q. other (sym (same_parts n (run_of j t) q).0)))) (at_most_one _) p.crons).0 in
        omega (arith, h, total-filter (λ j. p.due j t) (due_of n t) (below p.crons))

    pub not_due : (n : Run) → (n.at ≡ t → ⊥) → total (due_of n t) (due_at p t) ≡ 0
    not_due n e = total_zero (due_of n t) (due_at p t) (all_any (λ j. due_of n t j ≡ 0) (due_at p t) (λ j. one_no (same_run n (run_of j t)) (false_from_ne_true (same_run n (run_of j t)) (λ q. e (same_parts n (run_of j t) q).1))))

    minute_once : (n : Run) (c : Bool) → (n.at == t) ≡ c → number_of (λ r. same_run n r.run) s.running + number_of (λ w. same_run n w) s.waiting + number_of (λ j. same_run n (run_of j t)) (due_at p t) ≤ 1
    minute_once n true e = let q = eqb-true n.at t e in omega (arith, not_yet_running n q, not_yet_waiting n q, due_once n)
    minute_once n false e = omega (arith, k.once n, not_due n (λ q. both_ways (n.at == t) e (eq-eqb n.at t q)))

    minute_named : (u : Bool) → AreNamed p (record s { now = t; pending = due_at p t; pass = opened s.pass u (pass_of t (owed_at p s.stamps s.running t)) })
    minute_named u = record {
      once = λ n. minute_once n (n.at == t) refl;
      runs_past = runs_later t (omega (arith, next));
      waits_past = all_map (λ (w : Run). w.at ≤ s.now) (λ (w : Run). w.at ≤ t) s.waiting (λ w l. omega (arith, l, next)) k.waits_past;
      pending = due_cron p t;
      waiting = k.waiting;
      pass = of_opened p s.pass _ u k.pass (of_owed p s.stamps s.running t);
      lone = k.lone;
    }

  caught_named : (j : ℕ) → is_catchable p s j ≡ true → AreNamed p (after p s (Catch j))
  caught_named j e =
      let turn = is_turn p s.now s.pass j in
      let alone = not (list_any (λ r. not (is_cron p r.run.job)) s.running) in
      let from = nat_le p.from (s.now % 1440) in
      let q = and_parts (turn && alone && from) (nat_lt (s.now % 1440) p.to) e in
      let r = and_parts (turn && alone) from q.0 in
      let u = and_parts turn alone r.0 in
      let o = turn_if p s.now s.pass j u.0 in
      let a : AreAnacron p (j ∷ o.1) = subst (λ x. AreAnacron p (jobs_left x)) o.2 k.pass in
      catch_named j a.0.0 (not-true _ u.1)

-- an event that is not refused keeps names apart
pub named_step : (p : Plan) (s : State) (e : Event) → refusal p s e ≡ None → AreNamed p s → AreNamed p (after p s e)
named_step p s (Minute t) n k =
    let a = passed s.up _ _ n in let b = passed (is_civil t) _ _ a.1 in let c = passed (t == s.now + 1) _ _ b.1 in
    minute_named p s k t (eqb-true t (s.now + 1) c.0) _
named_step p s (Begin j) n k = let a = passed s.up _ _ n in begin_named p s k j (passed _ _ _ a.1).0 (answer p s.running j)
named_step p s (Got j d) n k = let a = passed s.up _ _ n in got_named p s k (run_of j d) (passed _ _ _ a.1).0
named_step p s (Catch j) n k = let a = passed s.up _ _ n in caught_named p s k j (passed _ _ _ a.1).0
named_step p s (End r) n k = end_named p s k _ _
named_step p s (Down) n k = down_named p s k
named_step p s (Up t) n k =
    let a = passed (not s.up) _ _ n in let b = passed (is_civil t) _ _ a.1 in let c = passed (nat_le s.now t) _ _ b.1 in
    up_named p s k t (leb-true s.now t c.0) true

pub named_start : (p : Plan) (o : Start) → AreNamed p (state_of p (From o))
named_start p o = record { once = λ n. omega arith; runs_past = tt; waits_past = tt; pending = tt; waiting = tt; pass = tt; lone = omega arith }

pub named : (p : Plan) (h : History) → IsLegal p h → AreNamed p (state_of p h)
named p (From s) legal = named_start p s
named p (h ▸ e) legal = subst (AreNamed p) (sym (stands p h e)) (named_step p (state_of p h) e (if_legal p h e legal.1) (named p h legal.0))

-- what is counted once differs from the others

pub none_same : {X : Type 0} (f : X → Run) (n : Run) (xs : List X) → total (λ x. one (same_run n (f x))) xs ≤ 0 → AllByRecursion (λ x. same_run n (f x) ≡ false) xs
none_same f n [] e = tt
none_same f n (x ∷ xs) e = (false_from_ne_true (same_run n (f x)) (λ s. let h : one (same_run n (f x)) ≡ 1 = ap one s in absurd (omega (arith, h, e))), none_same f n xs (omega (arith, e)))

pub one_same : (n : Run) → one (same_run n n) ≡ 1
one_same n = ap one (same_from n n refl refl)

pub pairs_differ : {X : Type 0} (f : X → Run) (xs : List X) → ((n : Run) → total (λ x. one (same_run n (f x))) xs ≤ 1) → EachPair (λ x y. same_run (f x) (f y) ≡ false) xs
pairs_differ f [] once = tt
pairs_differ f (x ∷ xs) once = (none_same f (f x) xs (omega (arith, once (f x), one_same (f x))), pairs_differ f xs (λ n. omega (arith, once n)))

both_differ : {X : Type 0} (f : X → Run) (xs : List X) (rs : List Going) → ((n : Run) → total (λ (r : Going). one (same_run n r.run)) rs + total (λ x. one (same_run n (f x))) xs ≤ 1) → AllByRecursion (λ x. AllByRecursion (λ r. same_run (f x) r.run ≡ false) rs) xs
both_differ f [] rs once = tt
both_differ f (x ∷ xs) rs once = (none_same (λ (r : Going). r.run) (f x) rs (omega (arith, once (f x), one_same (f x))), both_differ f xs rs (λ n. omega (arith, once n)))

-- of those that pass there is at most one
lone_step : {X : Type 0} (t : X → Bool) (a : Bool) (xs : List X) → one a + total (λ x. one (t x)) xs ≤ 1 → AllByRecursion (λ y. (t y && a) ≡ false) xs
lone_step t a [] l = tt
lone_step t a (x ∷ xs) l = (not_both (t x) a (omega (arith, l)), lone_step t a xs (omega (arith, l)))
  where
    not_both : (b c : Bool) → one c + one b ≤ 1 → (b && c) ≡ false
    not_both true true l = absurd (omega (arith, l))
    not_both true false l = refl
    not_both false c l = refl

pairs_lone : {X : Type 0} (t : X → Bool) (xs : List X) → total (λ x. one (t x)) xs ≤ 1 → EachPair (λ x y. (t y && t x) ≡ false) xs
pairs_lone t [] l = tt
pairs_lone t (x ∷ xs) l = (lone_step t (t x) xs l, pairs_lone t xs (omega (arith, l)))

pub apart : (p : Plan) (s : State) → AreNamed p s → AreApart p s
apart p s k = record {
  running = pairs_differ (λ (r : Going). r.run) s.running (λ n. omega (arith, k.once n));
  lone = pairs_lone (λ (r : Going). not (is_cron p r.run.job)) s.running k.lone;
  waiting = pairs_differ (λ (w : Run). w) s.waiting (λ n. omega (arith, k.once n));
  both = both_differ (λ (w : Run). w) s.waiting s.running (λ n. omega (arith, k.once n));
  fresh = both_differ (λ j. run_of j s.now) s.pending s.running (λ n. omega (arith, k.once n));
}
