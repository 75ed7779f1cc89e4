-- No two runs that a legal history has started have one name, ended or not.
use Rattle.std.proofs.Common.{ℕ, zero, suc, ◌+◌, ◌-◌, ◌/◌, ◌<◌, ◌≤◌, ◌≡◌, Bool, true, false, not, ◌&&◌, ◌||◌, cond, if◌then◌else◌, List, [], ◌∷◌, ◌++◌, filter, refl, sym, ap, ◌∙◌, subst, arith, ◌==◌, Option, Some, None, nat_lt, inl, inr, ⊎_elim, ◌⊎◌, length, set, get_or, replicate}
use Rattle.std.specs.List.{AllByRecursion, list_any}
use Rattle.std.proofs.lemmas.Bool.{and_parts, eqb-true, eq-eqb, cases_lt, not-false, not-true, false_from_ne_true, both_ways, or_cases, ltb-false, ne_eqb}
use Rattle.std.proofs.lemmas.List.{get_or-set_same, get_or-set_other, length-set, length-take-le, length-append, length-replicate}
use Rattle.cs_history.specs.Lists.{total, EachPair, placed}
use Rattle.cs_history.specs.Plan.{Plan, is_cron, is_sooner, placed_below, by_delay, due_at}
use Rattle.cs_history.specs.History.{History, From, ◌▸◌, Start, going, run_of, same_run, Answer, Starts, Waits, Skips, answer, with_started, with_waiting, Pass, pass_of, opened, owed_at, without_first, now, pending, waiting, running, stamps, pass, IsLegal}
use Rattle.cs_history.specs.Step.{state_of}
use Rattle.cs_history.specs.Names.{jobs_left, started}
use Rattle.cs_history.specs.declared.run.Run.{Run}
use Rattle.cs_history.specs.declared.run.Going.{Going}
use Rattle.cs_history.specs.declared.event.Event.TheVariants.{Minute, Begin, Got, Catch, End, Down, Up}
use Rattle.cs_history.proofs.Lists.{one, all_map, all_zip, all_any, all_push, all-filter, none_passes, any_at, all_passes, total_push, total-filter, total_without, total_zero, pairs-filter}
use Rattle.cs_history.proofs.Names.{same_parts, same_from, run_is, not_same, one_no, eq_term, run_term, due_of, due_once, not_due, named, IsAnacron, AreAnacron, all_placed, listed, pairs_differ}

-- the run goes on, or its job's stamp is today's
abbrev Told : Plan → ℕ → List Going → List (Option ℕ) → Run → Type 0
Told p t rs ss q = (list_any (λ x. same_run q x.run) rs ≡ true) ⊎ (get_or ss (q.job - p.crons) None ≡ Some (t / 1440))

-- no running run of an anacron job started before this one
abbrev IsNoLater : Plan → List Going → Going → Type 0
IsNoLater p rs q = AllByRecursion (λ r. is_cron p r.run.job ≡ false → q.run.at ≤ r.run.at) rs

-- what holds of the runs that have started, those that run, the stamps, and the jobs left to a pass
record Kept (p : Plan) (t : ℕ) (all rs : List Going) (ss : List (Option ℕ)) (js : List ℕ) : Type 0 where
  past : AllByRecursion (λ q. q.run.at ≤ t) all
  single : (n : Run) → is_cron p n.job ≡ false → total (λ q. one (same_run n q.run)) all ≤ 1
  known : AllByRecursion (λ q. is_cron p q.run.job ≡ false → q.run.job < p.jobs) all
  told : AllByRecursion (λ q. is_cron p q.run.job ≡ false → q.run.at ≡ t → Told p t rs ss q.run) all
  latest : AllByRecursion (λ q. is_cron p q.run.job ≡ false → IsNoLater p rs q) all
  fresh : AllByRecursion (λ j. AllByRecursion (λ q. same_run (run_of j t) q.run ≡ false) all) js
  distinct : EachPair (λ i j. (i == j) ≡ false) js
  anacron : AreAnacron p js
  places : length ss ≡ p.jobs - p.crons

any_more : {X : Type 0} (t : X → Bool) (xs : List X) (y : X) → list_any t xs ≡ true → list_any t (xs ++ y ∷ []) ≡ true
any_more t [] y e = absurd (cc)
any_more t (x ∷ xs) y e = go (t x) e (any_more t xs y)
  where
    go : (s : Bool) → (s || list_any t xs) ≡ true → (list_any t xs ≡ true → list_any t (xs ++ y ∷ []) ≡ true) → (s || list_any t (xs ++ y ∷ [])) ≡ true
    go true e rest = refl
    go false e rest = rest e

any_last : {X : Type 0} (t : X → Bool) (xs : List X) (y : X) → t y ≡ true → list_any t (xs ++ y ∷ []) ≡ true
any_last t [] y e = ap (λ b. b || false) e
any_last t (x ∷ xs) y e = go (t x) (any_last t xs y e)
  where
    go : (s : Bool) → list_any t (xs ++ y ∷ []) ≡ true → (s || list_any t (xs ++ y ∷ [])) ≡ true
    go true rest = refl
    go false rest = rest

-- what passes t stays if s keeps all that pass t
any_kept : {X : Type 0} (t s : X → Bool) (xs : List X) → ((x : X) → t x ≡ true → s x ≡ true) → list_any t xs ≡ true → list_any t (filter s xs) ≡ true
any_kept t s [] h e = absurd (cc)
any_kept {X} t s (x ∷ xs) h e = go (t x) (s x) refl refl e (any_kept t s xs h)
  where
    go : (a b : Bool) → t x ≡ a → s x ≡ b → (a || list_any t xs) ≡ true → (list_any t xs ≡ true → list_any t (filter s xs) ≡ true) → list_any t (cond b (x ∷ filter s xs) (filter s xs)) ≡ true
    go true true ta sb e rest = ap (λ c. c || list_any t (filter s xs)) ta
    go true false ta sb e rest = absurd (both_ways (s x) sb (h x ta))
    go false true ta sb e rest = ap (λ c. c || list_any t (filter s xs)) ta ∙ rest e
    go false false ta sb e rest = rest e

or_right : (a b : Bool) → b ≡ true → (a || b) ≡ true
or_right true b e = refl
or_right false b e = e

-- no job occurs twice in order of delay
pairs_placed : (before : ℕ → ℕ → Bool) (j : ℕ) (js : List ℕ) → AllByRecursion (λ i. ((j == i) ≡ false) × ((i == j) ≡ false)) js → EachPair (λ i k. (i == k) ≡ false) js → EachPair (λ i k. (i == k) ≡ false) (placed before j js)
pairs_placed before j [] a d = (tt, tt)
pairs_placed before j (i ∷ is) a d = go (before j i) (pairs_placed before j is a.1 d.1)
  where
    go : (s : Bool) → EachPair (λ i k. (i == k) ≡ false) (placed before j is) → EachPair (λ i k. (i == k) ≡ false) (if s then j ∷ i ∷ is else i ∷ placed before j is)
    go true rest = ((a.0.0, all_map (λ k. ((j == k) ≡ false) × ((k == j) ≡ false)) (λ k. (j == k) ≡ false) is (λ k b. b.0) a.1), d)
    go false rest = (all_placed (λ k. (i == k) ≡ false) before j a.0.1 is d.0, rest)

distinct_step : (p : Plan) (n : ℕ) → AllByRecursion (λ i. i < n) (placed_below p n) × EachPair (λ i k. (i == k) ≡ false) (placed_below p n) → (s : Bool)
    → AllByRecursion (λ i. i < suc n) (if s then [] else placed (is_sooner p) n (placed_below p n)) × EachPair (λ i k. (i == k) ≡ false) (if s then [] else placed (is_sooner p) n (placed_below p n))
distinct_step p n h true = (tt, tt)
distinct_step p n h false = (
  all_placed (λ i. i < suc n) (is_sooner p) n (omega arith) (placed_below p n) (all_map (λ i. i < n) (λ i. i < suc n) (placed_below p n) (λ i l. omega (arith, l)) h.0),
  pairs_placed (is_sooner p) n (placed_below p n) (all_map (λ i. i < n) (λ i. ((n == i) ≡ false) × ((i == n) ≡ false)) (placed_below p n) (λ i l. (ne_eqb n i (λ e. omega (arith, e, l)), ne_eqb i n (λ e. omega (arith, e, l)))) h.0) h.1,
)

distinct_below : (p : Plan) (n : ℕ) → AllByRecursion (λ i. i < n) (placed_below p n) × EachPair (λ i k. (i == k) ≡ false) (placed_below p n)
distinct_below p zero = (tt, tt)
distinct_below p (suc n) = distinct_step p n (distinct_below p n) (nat_lt n p.crons)

more_told : (p : Plan) (t : ℕ) (rs : List Going) (r : Going) (ss : List (Option ℕ)) (q : Run) → Told p t rs ss q → Told p t (rs ++ r ∷ []) ss q
more_told p t rs r ss q h = ⊎_elim (λ e. inl (any_more (λ (x : Going). same_run q x.run) rs r e)) (λ e. inr e) h

module _ (p : Plan) (t : ℕ) (all rs : List Going) (ss : List (Option ℕ)) where
  -- a cron run starts
  cron_starts : (js : List ℕ) → Kept p t all rs ss js → (r : Going) → is_cron p r.run.job ≡ true → r.run.at ≤ t → Kept p t (all ++ r ∷ []) (rs ++ r ∷ []) ss js
  cron_starts js k r cron at = record {
    past = all_push (λ (q : Going). q.run.at ≤ t) all r k.past at;
    single = λ n e. omega (arith, k.single n e, total_push (λ (q : Going). one (same_run n q.run)) all r, one_no (same_run n r.run) (not_same p n r.run false e cron));
    known = all_push (λ (q : Going). is_cron p q.run.job ≡ false → q.run.job < p.jobs) all r k.known (λ e. absurd (both_ways (is_cron p r.run.job) e cron));
    told = all_push (λ (q : Going). is_cron p q.run.job ≡ false → q.run.at ≡ t → Told p t (rs ++ r ∷ []) ss q.run) all r
        (all_map (λ (q : Going). is_cron p q.run.job ≡ false → q.run.at ≡ t → Told p t rs ss q.run) (λ (q : Going). is_cron p q.run.job ≡ false → q.run.at ≡ t → Told p t (rs ++ r ∷ []) ss q.run) all (λ q h e f. more_told p t rs r ss q.run (h e f)) k.told)
        (λ e. absurd (both_ways (is_cron p r.run.job) e cron));
    latest = all_push (λ (q : Going). is_cron p q.run.job ≡ false → IsNoLater p (rs ++ r ∷ []) q) all r
        (all_map (λ (q : Going). is_cron p q.run.job ≡ false → IsNoLater p rs q) (λ (q : Going). is_cron p q.run.job ≡ false → IsNoLater p (rs ++ r ∷ []) q) all
        (λ q h e. all_push (λ (x : Going). is_cron p x.run.job ≡ false → q.run.at ≤ x.run.at) rs r (h e) (λ f. absurd (both_ways (is_cron p r.run.job) f cron))) k.latest)
        (λ e. absurd (both_ways (is_cron p r.run.job) e cron));
    fresh = all_zip (λ j. AllByRecursion (λ (q : Going). same_run (run_of j t) q.run ≡ false) all) (IsAnacron p) (λ j. AllByRecursion (λ (q : Going). same_run (run_of j t) q.run ≡ false) (all ++ r ∷ [])) js
        (λ j h a. all_push (λ (q : Going). same_run (run_of j t) q.run ≡ false) all r h (not_same p (run_of j t) r.run false a.0 cron)) k.fresh k.anacron;
    distinct = k.distinct;
    anacron = k.anacron;
    places = k.places;
  }

  -- the first job of a pass starts
  catch_starts : (j : ℕ) (js : List ℕ) → Kept p t all rs ss (j ∷ js) → list_any (λ r. not (is_cron p r.run.job)) rs ≡ false → Kept p t (all ++ going j t t ∷ []) (rs ++ going j t t ∷ []) ss js
  catch_starts j js k alone =
      let r : Going = going j t t in
      record {
        past = all_push (λ (q : Going). q.run.at ≤ t) all r k.past (omega arith);
        single = λ n e. single n e (same_run n (run_of j t)) refl;
        known = all_push (λ (q : Going). is_cron p q.run.job ≡ false → q.run.job < p.jobs) all r k.known (λ _. k.anacron.0.1);
        told = all_push (λ (q : Going). is_cron p q.run.job ≡ false → q.run.at ≡ t → Told p t (rs ++ r ∷ []) ss q.run) all r
            (all_map (λ (q : Going). is_cron p q.run.job ≡ false → q.run.at ≡ t → Told p t rs ss q.run) (λ (q : Going). is_cron p q.run.job ≡ false → q.run.at ≡ t → Told p t (rs ++ r ∷ []) ss q.run) all (λ q h e f. more_told p t rs r ss q.run (h e f)) k.told)
            (λ e f. inl (any_last (λ (x : Going). same_run (run_of j t) x.run) rs r (same_from (run_of j t) (run_of j t) refl refl)));
        latest = all_push (λ (q : Going). is_cron p q.run.job ≡ false → IsNoLater p (rs ++ r ∷ []) q) all r
            (all_map (λ (q : Going). q.run.at ≤ t) (λ (q : Going). is_cron p q.run.job ≡ false → IsNoLater p (rs ++ r ∷ []) q) all (λ q l _. none_before q l) k.past)
            (λ _. none_before r (omega arith));
        fresh = all_zip (λ i. AllByRecursion (λ (q : Going). same_run (run_of i t) q.run ≡ false) all) (λ i. (j == i) ≡ false) (λ i. AllByRecursion (λ (q : Going). same_run (run_of i t) q.run ≡ false) (all ++ r ∷ [])) js
            (λ i h d. all_push (λ (q : Going). same_run (run_of i t) q.run ≡ false) all r h
            (false_from_ne_true (same_run (run_of i t) (run_of j t)) (λ e. both_ways (j == i) d (eq-eqb j i (sym (same_parts (run_of i t) (run_of j t) e).0))))) k.fresh.1 k.distinct.0;
        distinct = k.distinct.1;
        anacron = k.anacron.1;
        places = k.places;
      }
    where
      none_before : (q : Going) → q.run.at ≤ t → IsNoLater p (rs ++ going j t t ∷ []) q
      none_before q l = all_push (λ (x : Going). is_cron p x.run.job ≡ false → q.run.at ≤ x.run.at) rs (going j t t)
          (all_map (λ (x : Going). not (is_cron p x.run.job) ≡ false) (λ (x : Going). is_cron p x.run.job ≡ false → q.run.at ≤ x.run.at) rs (λ x c e. absurd (both_ways (is_cron p x.run.job) e (not-false (is_cron p x.run.job) c))) (none_passes (λ (x : Going). not (is_cron p x.run.job)) rs alone))
          (λ _. l)

      none : (n : Run) → n.job ≡ j → n.at ≡ t → total (λ (q : Going). one (same_run n q.run)) all ≡ 0
      none n a b = total_zero (λ (q : Going). one (same_run n q.run)) all (all_map (λ (q : Going). same_run (run_of j t) q.run ≡ false) (λ (q : Going). one (same_run n q.run) ≡ 0) all
          (λ q h. one_no (same_run n q.run) (false_from_ne_true (same_run n q.run) (λ e. let s = same_parts n q.run e in both_ways (same_run (run_of j t) q.run) h (same_from (run_of j t) q.run (sym a ∙ s.0) (sym b ∙ s.1))))) k.fresh.0)

      single : (n : Run) → is_cron p n.job ≡ false → (s : Bool) → same_run n (run_of j t) ≡ s → total (λ (q : Going). one (same_run n q.run)) (all ++ going j t t ∷ []) ≤ 1
      single n e true h =
          let s = same_parts n (run_of j t) h in
          let o : one (same_run n (run_of j t)) ≡ 1 = ap one h in
          omega (arith, total_push (λ (q : Going). one (same_run n q.run)) all (going j t t), none n s.0 s.1, o)
      single n e false h = omega (arith, total_push (λ (q : Going). one (same_run n q.run)) all (going j t t), k.single n e, one_no (same_run n (run_of j t)) h)

  -- no other jobs are left
  closed : (js : List ℕ) → Kept p t all rs ss js → Kept p t all rs ss []
  closed js k = record { past = k.past; single = k.single; known = k.known; told = k.told; latest = k.latest; fresh = tt; distinct = tt; anacron = tt; places = k.places }

  -- time passes
  later : (js : List ℕ) → Kept p t all rs ss js → (u : ℕ) → t < u → Kept p u all rs ss js
  later js k u l = record {
    past = all_map (λ (q : Going). q.run.at ≤ t) (λ (q : Going). q.run.at ≤ u) all (λ q h. omega (arith, h, l)) k.past;
    single = k.single;
    known = k.known;
    told = all_map (λ (q : Going). q.run.at ≤ t) (λ (q : Going). is_cron p q.run.job ≡ false → q.run.at ≡ u → Told p u rs ss q.run) all (λ q h e f. absurd (omega (arith, h, f, l))) k.past;
    latest = k.latest;
    fresh = all_any (λ j. AllByRecursion (λ (q : Going). same_run (run_of j u) q.run ≡ false) all) js
        (λ j. all_map (λ (q : Going). q.run.at ≤ t) (λ (q : Going). same_run (run_of j u) q.run ≡ false) all (λ q h. false_from_ne_true (same_run (run_of j u) q.run) (λ e. let s = (same_parts (run_of j u) q.run e).1 in absurd (omega (arith, s, h, l)))) k.past);
    distinct = k.distinct;
    anacron = k.anacron;
    places = k.places;
  }

  not_later : (js : List ℕ) → Kept p t all rs ss js → (u : ℕ) → t ≤ u → Kept p u all rs ss js
  not_later js k u l = ⊎_elim (λ (h : t < u). later js k u h) (λ (h : u ≤ t). let e : t ≡ u = omega (arith, h, l) in subst (λ v. Kept p v all rs ss js) e k) (cases_lt t u)

  module _ (js : List ℕ) (k : Kept p t all rs ss js) (r : Run) (runs : list_any (λ x. same_run r x.run) rs ≡ true) (past : AllByRecursion (λ x. x.run.at ≤ t) rs) where
    abbrev stamped : Bool → List (Option ℕ)
    stamped c = if c then ss else set ss (r.job - p.crons) (Some (r.at / 1440))

    abbrev gone : List Going
    gone = filter (λ x. not (same_run r x.run)) rs

    place : (j : ℕ) → is_cron p j ≡ false → j < p.jobs → j - p.crons < length ss
    place j e l = let h = ltb-false j p.crons e in omega (arith, h, l, k.places)

    set_today : (q : Run) → is_cron p q.job ≡ false → q.job < p.jobs → r.job ≡ q.job → r.at ≡ t → get_or (stamped false) (q.job - p.crons) None ≡ Some (t / 1440)
    set_today q e l job at =
        ap (λ (i : ℕ). get_or (set ss i (Some (r.at / 1440))) (q.job - p.crons) None) (ap (λ (j : ℕ). j - p.crons) job)
        ∙ (get_or-set_same ss (q.job - p.crons) (Some (r.at / 1440)) None (place q.job e l) ∙ ap (λ (m : ℕ). Some (m / 1440)) at)

    told_after : (q : Going) → is_cron p q.run.job ≡ false → q.run.at ≡ t → q.run.job < p.jobs → IsNoLater p rs q → Told p t rs ss q.run → (c : Bool) → is_cron p r.job ≡ c → Told p t gone (stamped c) q.run
    told_after q e at l within h true c = ⊎_elim
        (λ running. inl (any_kept (λ (x : Going). same_run q.run x.run) (λ (x : Going). not (same_run r x.run)) rs
        (λ x s. ap not (false_from_ne_true (same_run r x.run) (λ f. both_ways (is_cron p q.run.job) e (ap (is_cron p) ((same_parts q.run x.run s).0 ∙ sym (same_parts r x.run f).0) ∙ c)))) running))
        (λ stamp. inr stamp) h
    told_after q e at l within h false c = go (same_run r q.run) refl (r.job == q.run.job) refl
      where
        found : (x : Going) × (same_run r x.run ≡ true) × ((x.run.at ≤ t) × (is_cron p x.run.job ≡ false → q.run.at ≤ x.run.at))
        found = any_at (λ (x : Going). same_run r x.run) (λ (x : Going). (x.run.at ≤ t) × (is_cron p x.run.job ≡ false → q.run.at ≤ x.run.at)) rs runs
            (all_zip (λ (x : Going). x.run.at ≤ t) (λ (x : Going). is_cron p x.run.job ≡ false → q.run.at ≤ x.run.at) (λ (x : Going). (x.run.at ≤ t) × (is_cron p x.run.job ≡ false → q.run.at ≤ x.run.at)) rs (λ x a b. (a, b)) past within)

        go : (a : Bool) → same_run r q.run ≡ a → (b : Bool) → (r.job == q.run.job) ≡ b → Told p t gone (stamped false) q.run
        go true f b g = let s = same_parts r q.run f in inr (set_today q.run e l s.0 (s.1 ∙ at))
        go false f true g =
            let job = eqb-true r.job q.run.job g in
            let x = found.0 in
            let s = same_parts r x.run found.1 in
            let cron : is_cron p x.run.job ≡ false = ap (is_cron p) (sym s.0 ∙ job) ∙ e in
            let w = found.2.1 cron in
            inr (set_today q.run e l job (omega (arith, s.1, w, at, found.2.0)))
        go false f false g = ⊎_elim
            (λ running. inl (any_kept (λ (x : Going). same_run q.run x.run) (λ (x : Going). not (same_run r x.run)) rs
            (λ x s. ap not (false_from_ne_true (same_run r x.run) (λ y. both_ways (r.job == q.run.job) g (eq-eqb r.job q.run.job ((same_parts r x.run y).0 ∙ sym (same_parts q.run x.run s).0))))) running))
            (λ stamp. inr (get_or-set_other ss (r.job - p.crons) (q.run.job - p.crons) (Some (r.at / 1440)) None
            (λ i. both_ways (r.job == q.run.job) g (eq-eqb r.job q.run.job (let a = ltb-false q.run.job p.crons e in let d = ltb-false r.job p.crons c in omega (arith, i, a, d)))) ∙ stamp)) h

    length_after : (c : Bool) → length (stamped c) ≡ p.jobs - p.crons
    length_after true = k.places
    length_after false = length-set ss (r.job - p.crons) (Some (r.at / 1440)) ∙ k.places

    -- a run ends
    ended : (c : Bool) → is_cron p r.job ≡ c → Kept p t all gone (stamped c) js
    ended c e = record {
      past = k.past;
      single = k.single;
      known = k.known;
      told = all_zip (λ (q : Going). (is_cron p q.run.job ≡ false → q.run.job < p.jobs) × (is_cron p q.run.job ≡ false → IsNoLater p rs q)) (λ (q : Going). is_cron p q.run.job ≡ false → q.run.at ≡ t → Told p t rs ss q.run) (λ (q : Going). is_cron p q.run.job ≡ false → q.run.at ≡ t → Told p t gone (stamped c) q.run) all
          (λ q a h f at. told_after q f at (a.0 f) (a.1 f) (h f at) c e)
          (all_zip (λ (q : Going). is_cron p q.run.job ≡ false → q.run.job < p.jobs) (λ (q : Going). is_cron p q.run.job ≡ false → IsNoLater p rs q) (λ (q : Going). (is_cron p q.run.job ≡ false → q.run.job < p.jobs) × (is_cron p q.run.job ≡ false → IsNoLater p rs q)) all (λ q a b. (a, b)) k.known k.latest) k.told;
      latest = all_map (λ (q : Going). is_cron p q.run.job ≡ false → IsNoLater p rs q) (λ (q : Going). is_cron p q.run.job ≡ false → IsNoLater p gone q) all (λ q h f. all-filter (λ (x : Going). is_cron p x.run.job ≡ false → q.run.at ≤ x.run.at) (λ x. not (same_run r x.run)) rs (h f)) k.latest;
      fresh = k.fresh;
      distinct = k.distinct;
      anacron = k.anacron;
      places = length_after c;
    }

  -- a pass begins
  left_is : (js : List ℕ) → jobs_left (pass_of t js) ≡ js
  left_is [] = refl
  left_is (j ∷ js) = refl

  module _ (unowed : (j d : ℕ) → p.owed j (Some d) d ≡ false) where
    abbrev passes : ℕ → Bool
    passes j = p.owed j (get_or ss (j - p.crons) None) (t / 1440) && not (list_any (λ r. r.run.job == j) rs)

    -- a job that is owed has not started in this minute
    fresh_job : (js : List ℕ) → Kept p t all rs ss js → (j : ℕ) → passes j ≡ true → IsAnacron p j → AllByRecursion (λ (q : Going). same_run (run_of j t) q.run ≡ false) all
    fresh_job js k j e a = all_map (λ (q : Going). is_cron p q.run.job ≡ false → q.run.at ≡ t → Told p t rs ss q.run) (λ (q : Going). same_run (run_of j t) q.run ≡ false) all
        (λ q h. false_from_ne_true (same_run (run_of j t) q.run) (λ f.
        let s = same_parts (run_of j t) q.run f in
        let b = and_parts (p.owed j (get_or ss (j - p.crons) None) (t / 1440)) (not (list_any (λ r. r.run.job == j) rs)) e in
        ⊎_elim (λ running. both_ways (list_any (λ (r : Going). r.run.job == j) rs) (not-true _ b.1) (job_runs rs q.run j s.0 running))
        (λ stamp. both_ways (p.owed j (get_or ss (j - p.crons) None) (t / 1440))
        (ap (λ (o : Option ℕ). p.owed j o (t / 1440)) (ap (λ (i : ℕ). get_or ss (i - p.crons) None) s.0 ∙ stamp) ∙ unowed j (t / 1440)) b.0)
        (h (ap (is_cron p) (sym s.0) ∙ a.0) (sym s.1)))) k.told
      where
        job_runs : (rs : List Going) (q : Run) (j : ℕ) → j ≡ q.job → list_any (λ x. same_run q x.run) rs ≡ true → list_any (λ (r : Going). r.run.job == j) rs ≡ true
        job_runs [] q j e h = absurd (cc)
        job_runs (x ∷ rs) q j e h = ⊎_elim (λ f. ap (λ b. b || list_any (λ (r : Going). r.run.job == j) rs) (eq-eqb x.run.job j (sym (e ∙ (same_parts q x.run f).0))))
            (λ f. or_right (x.run.job == j) (list_any (λ (r : Going). r.run.job == j) rs) (job_runs rs q j e f)) (or_cases (same_run q x.run) (list_any (λ x. same_run q x.run) rs) h)

    begun : (js : List ℕ) → Kept p t all rs ss js → Kept p t all rs ss (owed_at p ss rs t)
    begun js k = record {
      past = k.past;
      single = k.single;
      known = k.known;
      told = k.told;
      latest = k.latest;
      fresh = all_zip (λ j. passes j ≡ true) (IsAnacron p) (λ j. AllByRecursion (λ (q : Going). same_run (run_of j t) q.run ≡ false) all) (owed_at p ss rs t) (λ j e a. fresh_job js k j e a)
          (all_passes passes (by_delay p)) (all-filter (IsAnacron p) passes (by_delay p) (listed p p.jobs (omega arith)));
      distinct = pairs-filter (λ i j. (i == j) ≡ false) passes (by_delay p) (distinct_below p p.jobs).1;
      anacron = all-filter (IsAnacron p) passes (by_delay p) (listed p p.jobs (omega arith));
      places = k.places;
    }

    with_pass : (o : Option Pass) (b : Bool) → Kept p t all rs ss (jobs_left o) → Kept p t all rs ss (jobs_left (opened o b (pass_of t (owed_at p ss rs t))))
    with_pass (Some o) b k = k
    with_pass None true k = subst (λ js. Kept p t all rs ss js) (sym (left_is (owed_at p ss rs t))) (begun [] k)
    with_pass None false k = k

module _ (p : Plan) (unowed : (j d : ℕ) → p.owed j (Some d) d ≡ false) where
  abbrev KeptAt : History → Type 0
  KeptAt h = Kept p (now h) (started p h) (running p h) (stamps p h) (jobs_left (pass p h))

  kept_start : (s : Start) → KeptAt (From s)
  kept_start s =
      let n = p.jobs - p.crons in
      let none : Option ℕ = None in
      record {
        past = tt;
        single = λ n e. omega arith;
        known = tt;
        told = tt;
        latest = tt;
        fresh = tt;
        distinct = tt;
        anacron = tt;
        places = length-take-le n (s.stamps ++ replicate n None) (omega (arith, length-append s.stamps (replicate n none), length-replicate n none));
      }

  first_gone : (o : Option Pass) (at j : ℕ) (js : List ℕ) → o ≡ Some (record { at = at; left = j ∷ js }) → jobs_left (without_first o) ≡ js
  first_gone o at j js e = ap (λ x. jobs_left (without_first x)) e ∙ left_is p at [] [] [] js

  begun_named : (h : History) (j : ℕ) → IsLegal p (h ▸ Begin j) → KeptAt h → (a : Answer) → Kept p (now h) (with_started a (started p h) (going j (now h) (now h))) (with_started a (running p h) (going j (now h) (now h))) (stamps p h) (jobs_left (pass p h))
  begun_named h j legal k Starts =
      let found = any_at (λ i. j == i) (λ i. is_cron p i ≡ true) (pending p h) legal.1.is_pending (named p h legal.0).pending in
      cron_starts p (now h) (started p h) (running p h) (stamps p h) (jobs_left (pass p h)) k (going j (now h) (now h)) (ap (is_cron p) (eqb-true j found.0 found.1) ∙ found.2) (omega arith)
  begun_named h j legal k Waits = k
  begun_named h j legal k Skips = k

  kept : (h : History) → IsLegal p h → KeptAt h
  kept (From s) legal = kept_start s
  kept (h ▸ Minute t) legal =
      let k = later p (now h) (started p h) (running p h) (stamps p h) (jobs_left (pass p h)) (kept h legal.0) t (omega (arith, legal.1.next)) in
      with_pass p t (started p h) (running p h) (stamps p h) unowed (pass p h) _ k
  kept (h ▸ Begin j) legal = begun_named h j legal (kept h legal.0) (answer p (running p h) j)
  kept (h ▸ Got j d) legal =
      let n = named p h legal.0 in
      let found = any_at (same_run (run_of j d)) (λ v. (v.at ≤ now h) × (is_cron p v.job ≡ true)) (waiting p h) legal.1.is_waiting (all_zip (λ v. v.at ≤ now h) (λ v. is_cron p v.job ≡ true) (λ v. (v.at ≤ now h) × (is_cron p v.job ≡ true)) (waiting p h) (λ v a b. (a, b)) n.waits_past n.waiting) in
      let was : (d ≤ now h) × (is_cron p j ≡ true) = subst (λ (v : Run). (v.at ≤ now h) × (is_cron p v.job ≡ true)) (sym (run_is (run_of j d) found.0 found.1)) found.2 in
      cron_starts p (now h) (started p h) (running p h) (stamps p h) (jobs_left (pass p h)) (kept h legal.0) (going j d (now h)) was.1 was.0
  kept (h ▸ Catch j) legal =
      let m = legal.1 in
      let k = subst (λ o. Kept p (now h) (started p h) (running p h) (stamps p h) (jobs_left o)) m.first (kept h legal.0) in
      subst (λ js. Kept p (now h) (started p h ++ going j (now h) (now h) ∷ []) (running p h ++ going j (now h) (now h) ∷ []) (stamps p h) js) (sym (first_gone (pass p h) m.begun j m.after m.first))
      (catch_starts p (now h) (started p h) (running p h) (stamps p h) j m.after k m.alone)
  kept (h ▸ End r) legal = ended p (now h) (started p h) (running p h) (stamps p h) (jobs_left (pass p h)) (kept h legal.0) r legal.1 (named p h legal.0).runs_past (is_cron p r.job) refl
  kept (h ▸ Down) legal = closed p (now h) (started p h) (running p h) (stamps p h) (jobs_left (pass p h)) (kept h legal.0)
  kept (h ▸ Up t) legal =
      let k = not_later p (now h) (started p h) (running p h) (stamps p h) (jobs_left (pass p h)) (kept h legal.0) t legal.1.later in
      with_pass p t (started p h) (running p h) (stamps p h) unowed (pass p h) true k

  -- cron runs
  abbrev times_named : ℕ → Run → List ℕ → List Run → List Going → ℕ
  times_named t n js ws rs = total (λ q. one (same_run n q.run)) rs + total (λ w. one (same_run n w)) ws + total (due_of n t) js

  once_begun : (t : ℕ) (n : Run) (js : List ℕ) (ws : List Run) (rs : List Going) (j : ℕ) → list_any (λ i. j == i) js ≡ true → times_named t n js ws rs ≤ 1 → (a : Answer)
      → times_named t n (filter (λ i. not (j == i)) js) (with_waiting a ws (run_of j t)) (with_started a rs (going j t t)) ≤ 1
  once_begun t n js ws rs j e l Starts = omega (arith, l, total_push (λ (q : Going). one (same_run n q.run)) rs (going j t t), total_without (λ i. j == i) (due_of n t) (due_of n t j) js (eq_term (due_of n t) j) e)
  once_begun t n js ws rs j e l Waits = omega (arith, l, total_push (λ (w : Run). one (same_run n w)) ws (run_of j t), total_without (λ i. j == i) (due_of n t) (due_of n t j) js (eq_term (due_of n t) j) e)
  once_begun t n js ws rs j e l Skips = omega (arith, l, total-filter (λ i. not (j == i)) (due_of n t) js)

  once_minute : (h : History) (t : ℕ) → IsLegal p h → t ≡ now h + 1 → (n : Run) → times_named (now h) n (pending p h) (waiting p h) (started p h) ≤ 1 → (s : Bool) → (n.at == t) ≡ s → times_named t n (due_at p t) (waiting p h) (started p h) ≤ 1
  once_minute h t legal next n l true e =
      let at = eqb-true n.at t e in
      let a = total_zero (λ (q : Going). one (same_run n q.run)) (started p h) (all_map (λ q. q.run.at ≤ now h) (λ q. one (same_run n q.run) ≡ 0) (started p h)
      (λ q m. one_no (same_run n q.run) (false_from_ne_true (same_run n q.run) (λ f. let x = (same_parts n q.run f).1 in absurd (omega (arith, x, at, m, next))))) (kept h legal).past) in
      let b = total_zero (λ (w : Run). one (same_run n w)) (waiting p h) (all_map (λ w. w.at ≤ now h) (λ w. one (same_run n w) ≡ 0) (waiting p h)
      (λ w m. one_no (same_run n w) (false_from_ne_true (same_run n w) (λ f. let x = (same_parts n w f).1 in absurd (omega (arith, x, at, m, next))))) (named p h legal).waits_past) in
      omega (arith, a, b, due_once p (state_of p h) (named p h legal) t next n)
  once_minute h t legal next n l false e = omega (arith, l, not_due p (state_of p h) (named p h legal) t next n (λ q. both_ways (n.at == t) e (eq-eqb n.at t q)))

  once : (h : History) → IsLegal p h → (n : Run) → is_cron p n.job ≡ true → times_named (now h) n (pending p h) (waiting p h) (started p h) ≤ 1
  once (From s) legal n c = omega arith
  once (h ▸ Minute t) legal n c = once_minute h t legal.0 legal.1.next n (once h legal.0 n c) (n.at == t) refl
  once (h ▸ Begin j) legal n c = once_begun (now h) n (pending p h) (waiting p h) (started p h) j legal.1.is_pending (once h legal.0 n c) (answer p (running p h) j)
  once (h ▸ Got j d) legal n c = omega (
    arith,
    once h legal.0 n c,
    total_push (λ (q : Going). one (same_run n q.run)) (started p h) (going j d (now h)),
    total_without (same_run (run_of j d)) (λ (v : Run). one (same_run n v)) (one (same_run n (run_of j d))) (waiting p h) (run_term (λ v. one (same_run n v)) (run_of j d)) legal.1.is_waiting,
  )
  once (h ▸ Catch j) legal n c =
      let k = subst (λ o. AreAnacron p (jobs_left o)) legal.1.first (kept h legal.0).anacron in
      omega (arith, once h legal.0 n c, total_push (λ (q : Going). one (same_run n q.run)) (started p h) (going j (now h) (now h)), one_no (same_run n (run_of j (now h))) (not_same p n (run_of j (now h)) true c k.0.0))
  once (h ▸ End r) legal n c = once h legal.0 n c
  once (h ▸ Down) legal n c = omega (arith, once h legal.0 n c)
  once (h ▸ Up t) legal n c = omega (arith, once h legal.0 n c)

  at_most_once : (h : History) → IsLegal p h → (n : Run) → (c : Bool) → is_cron p n.job ≡ c → total (λ q. one (same_run n q.run)) (started p h) ≤ 1
  at_most_once h legal n true e = omega (arith, once h legal n e)
  at_most_once h legal n false e = (kept h legal).single n e

  pub never_twice : (h : History) → IsLegal p h → EachPair (λ r q. same_run r.run q.run ≡ false) (started p h)
  never_twice h legal = pairs_differ (λ (q : Going). q.run) (started p h) (λ n. at_most_once h legal n (is_cron p n.job) refl)
