-- Which windows hold midnight, and what they weigh.
use Rattle.std.proofs.Common.{ℕ, zero, suc, ◌+◌, ◌-◌, ◌%◌, ◌<◌, ◌≤◌, ◌≡◌, ◌≢◌, ◌==◌, ◌&&◌, ◌||◌, ◌++◌, Bool, true, false, not, if◌then◌else◌, List, [], ◌∷◌, length, refl, sym, ap, ◌∙◌, subst, arith, ⊎_elim, Option, Some, None}
use Rattle.std.specs.List.{AllByRecursion, list_all, list_any}
use Rattle.std.proofs.lemmas.Bool.{both_ways, cases_eq, eqb-true, false_from_ne_true}
use Rattle.cs_history.specs.declared.mode.Mode.{Mode}
use Rattle.cs_history.specs.declared.mode.Mode.TheVariants.{Skip}
use Rattle.cs_history.specs.declared.run.Run.{Run}
use Rattle.cs_history.specs.Lists.{below}
use Rattle.cs_history.specs.Plan.{Plan, exclusive_group, in_group_of, is_cron, is_skip, rivals, same_group, takes_lock, waits}
use Rattle.cs_history.specs.History.{run_of, same_run}
use Rattle.cs_history.specs.Calm.{AreDifferent, Holds, IsCalm, load, opens, reach}
use Rattle.cs_history.proofs.Lists.{all_map}
use Rattle.cs_history.proofs.Names.{same_from, same_parts}
use Rattle.cs_theorem.proofs.Says.{below_to, tells_below}
use Rattle.cs_theorem.proofs.Listed.{load_within}
use Rattle.cs_ruling.specs.Loads.{Job, Need, at_midnight}

both_so : (b : Bool) (x : Bool) → (if b then x else x) ≡ x
both_so true x = refl
both_so false x = refl

three_so : (b w : Bool) (x : ℕ) → (if b then (if w then x else x) else x) ≡ x
three_so true true x = refl
three_so true false x = refl
three_so false w x = refl

-- the windows that begin at midnight, of the jobs below n
abbrev runs : ℕ → List Run
runs zero = []
runs (suc n) = run_of n 4320 ∷ runs n

runs_below : (n : ℕ) → AllByRecursion (λ w. w.job < n) (runs n)
runs_below zero = tt
runs_below (suc n) = (omega arith, all_map (λ (w : Run). w.job < n) (λ (w : Run). w.job < suc n) (runs n) (λ w h. omega (arith, h)) (runs_below n))

other_job : (n : ℕ) (w : Run) → w.job < n → same_run (run_of n 4320) w ≡ false
other_job n w h = false_from_ne_true (same_run (run_of n 4320) w) (λ e. omega (arith, h, (same_parts (run_of n 4320) w e).0))

runs_differ : (n : ℕ) → AreDifferent (runs n)
runs_differ zero = tt
runs_differ (suc n) = (all_map (λ (w : Run). w.job < n) (λ w. same_run (run_of n 4320) w ≡ false) (runs n) (other_job n) (runs_below n), runs_differ n)

or_true : (a b : Bool) → b ≡ true → (a || b) ≡ true
or_true true b e = refl
or_true false b e = e

or_first : (a b : Bool) → a ≡ true → (a || b) ≡ true
or_first a b e = ap (λ (x : Bool). x || b) e

among_runs : (n : ℕ) (w : Run) → w.job < n → w.at ≡ 4320 → list_any (same_run w) (runs n) ≡ true
among_runs zero w h e = absurd (omega (arith, h))
among_runs (suc n) w h e =
    ⊎_elim (λ (q : w.job ≡ n). or_first (same_run w (run_of n 4320)) (list_any (same_run w) (runs n)) (same_from w (run_of n 4320) q e))
    (λ (q : w.job ≢ n). or_true (same_run w (run_of n 4320)) (list_any (same_run w) (runs n)) (among_runs n w (omega (arith, h, q)) e)) (cases_eq w.job n)

no_group_excludes : (p : Plan) (o : Option ℕ) → ((g : ℕ) → p.exclusive g ≡ false) → exclusive_group p o ≡ false
no_group_excludes p None h = refl
no_group_excludes p (Some g) h = h g

and_false : (a b : Bool) → a ≡ false → (a && b) ≡ false
and_false a b e = ap (λ (x : Bool). x && b) e

-- a skip job of another number is in the way of none
abbrev is_alone : Plan → ℕ → ℕ → Bool
is_alone p i j = not (is_skip (p.mode i)) || (i == j || not (takes_lock p j && same_group p i j))

abbrev are_alone : Plan → Bool
are_alone p = list_all (λ i. list_all (λ j. is_alone p i j) (below p.jobs)) (below p.jobs)

alone_step : (s e x : Bool) → s ≡ true → e ≡ false → (not s || (e || not x)) ≡ true → x ≡ false
alone_step true true x a b h = absurd (cc)
alone_step true false true a b h = absurd (cc)
alone_step true false false a b h = refl
alone_step false e x a b h = absurd (cc)

module _ (cron anacron : List Job) (capacity : ℕ) where
  abbrev p : Plan
  p = at_midnight cron anacron capacity

  abbrev HoldsIt : Run → Type 0
  HoldsIt = Holds p (λ _. 10) 4320

  begun : (w : Run) → HoldsIt w → w.at ≡ 4320
  begun w h =
      let o : w.at % 1440 ≡ 0 = eqb-true (w.at % 1440) 0 (sym (both_so (is_cron p w.job) (w.at % 1440 == 0)) ∙ h.opens) in
      let l : reach p (λ _. 10) w.job ≡ 10 = three_so (is_cron p w.job) (waits p w.job) 10 in
      omega (arith, o, l, h.begun, h.lasts)

  holds : (w : Run) → w.job < p.jobs → w.at ≡ 4320 → HoldsIt w
  holds w known e =
      let l : reach p (λ _. 10) w.job ≡ 10 = three_so (is_cron p w.job) (waits p w.job) 10 in
      record {
        known = known;
        opens = both_so (is_cron p w.job) (w.at % 1440 == 0) ∙ ap (λ (t : ℕ). t % 1440 == 0) e;
        begun = omega (arith, e);
        lasts = omega (arith, e, l);
      }

  runs_at : (n : ℕ) → AllByRecursion (λ w. w.at ≡ 4320) (runs n)
  runs_at zero = tt
  runs_at (suc n) = (refl, runs_at n)

  all_hold : (ws : List Run) → AllByRecursion (λ w. w.job < p.jobs) ws → AllByRecursion (λ w. w.at ≡ 4320) ws → AllByRecursion HoldsIt ws
  all_hold [] a b = tt
  all_hold (w ∷ ws) a b = (holds w a.0 b.0, all_hold ws a.1 b.1)

  not_rivals : (i j : ℕ) → rivals p i j ≡ false
  not_rivals i j = and_false (exclusive_group p (p.group i)) (same_group p i j) (no_group_excludes p (p.group i) (λ g. refl))

  skip_apart : are_alone p ≡ true → (v w : Run) → p.mode v.job ≡ Skip → HoldsIt v → HoldsIt w → same_run v w ≡ false → (takes_lock p w.job && same_group p v.job w.job) ≡ false
  skip_apart lone v w skip a b e =
      let rows = (tells_below (λ i. list_all (λ j. is_alone p i j) (below p.jobs)) (λ i. list_all (λ j. is_alone p i j) (below p.jobs) ≡ true) p.jobs (λ i. (λ h. h, λ h. h))).0 lone v.job a.known in
      let cell = (tells_below (λ j. is_alone p v.job j) (λ j. is_alone p v.job j ≡ true) p.jobs (λ j. (λ h. h, λ h. h))).0 rows w.job b.known in
      let other : (v.job == w.job) ≡ false = false_from_ne_true (v.job == w.job) (λ s. both_ways (same_run v w) e (same_from v w (eqb-true v.job w.job s) (begun v a ∙ sym (begun w b)))) in
      alone_step (is_skip (p.mode v.job)) (v.job == w.job) (takes_lock p w.job && same_group p v.job w.job) (ap is_skip skip) other cell

  listed : (ws : List Run) → AllByRecursion HoldsIt ws → AllByRecursion (λ w. list_any (same_run w) (runs p.jobs) ≡ true) ws
  listed ws a = all_map HoldsIt (λ w. list_any (same_run w) (runs p.jobs) ≡ true) ws (λ w h. among_runs p.jobs w h.known (begun w h)) a

  calm : are_alone p ≡ true → load p (runs p.jobs) ≤ capacity → IsCalm p (λ _. 10) 4320
  calm lone within = record {
    exclusive = λ v w a b e _ _ r. absurd (both_ways (rivals p v.job w.job) (not_rivals v.job w.job) r);
    beside = λ v w a b _ _. (not_rivals v.job w.job, not_rivals w.job v.job);
    load = λ ws d a. let l = load_within p ws (runs p.jobs) d (listed ws a) in omega (arith, l, within);
    skip = λ v w _ m a b e. skip_apart lone v w m a b e;
  }

  weighs : IsCalm p (λ _. 10) 4320 → load p (runs p.jobs) ≤ capacity
  weighs is = is.load (runs p.jobs) (runs_differ p.jobs) (all_hold (runs p.jobs) (runs_below p.jobs) (runs_at p.jobs))

pub needs : (cron anacron : List Job) (least : ℕ) → ((capacity : ℕ) → (are_alone (at_midnight cron anacron capacity) ≡ true) × (load (at_midnight cron anacron capacity) (runs (length (cron ++ anacron))) ≡ least)) → Need cron anacron least
needs cron anacron least so capacity = (
  λ is. let w = weighs cron anacron capacity is in omega (arith, w, (so capacity).1),
  λ enough. calm cron anacron capacity (so capacity).0 (omega (arith, enough, (so capacity).1)),
)
