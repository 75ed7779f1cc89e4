-- What each event keeps: a state is the minute, what is pending, what waits and what runs.
use Rattle.std.proofs.Common.{ℕ, ◌+◌, ◌-◌, ◌%◌, ◌<◌, ◌≤◌, ◌≡◌, Bool, true, false, not, ◌&&◌, if◌then◌else◌, List, [], ◌∷◌, ◌++◌, filter, refl, sym, ap, ◌∙◌, subst, arith, ◌==◌}
use Rattle.std.specs.List.{AllByRecursion, list_any}
use Rattle.std.proofs.lemmas.Bool.{eqb-true, ltb-true, not-true, both_ways}
use Rattle.cs_history.specs.Lists.{total, EachPair}
use Rattle.cs_history.specs.Plan.{Plan, belongs, is_cron, takes_lock, waits, locks, same_group, both_share, in_the_way, IsPlan, IsReached}
use Rattle.cs_history.specs.History.{going, same_run, is_free}
use Rattle.cs_history.specs.declared.run.Run.{Run}
use Rattle.cs_history.specs.declared.run.Going.{Going}
use Rattle.cs_history.specs.Calm.{arrives, HasWaiter}
use Rattle.cs_history.proofs.Lists.{all_any, all_push, all-filter, none_passes, any_at, pairs_push, pairs-filter, total_push, total-filter, total_without}
use Rattle.cs_history.proofs.Names.{run_is}

-- since minute d, up to t, the bound of the group of j has not been 0
abbrev pub IsBusy : Plan → (ℕ → ℕ → ℕ) → ℕ → ℕ → ℕ → Type 0
IsBusy p b j d t = (g : ℕ) → HasWaiter p g → locks p g j ≡ true → (u : ℕ) → d < u → u ≤ t → 0 < b g u

pub record IsPending (p : Plan) (t : ℕ) (j : ℕ) : Type 0 where
  pub cron : is_cron p j ≡ true
  pub due : p.due j t ≡ true

pub record IsQueued (p : Plan) (b : ℕ → ℕ → ℕ) (t : ℕ) (w : Run) : Type 0 where
  pub cron : is_cron p w.job ≡ true
  pub waits : waits p w.job ≡ true
  pub due : p.due w.job w.at ≡ true
  pub civil : IsReached w.at
  pub begun : w.at ≤ t
  pub busy : IsBusy p b w.job w.at t

pub record IsGoing (p : Plan) (b : ℕ → ℕ → ℕ) (t : ℕ) (r : Going) : Type 0 where
  pub known : r.run.job < p.jobs
  pub due : is_cron p r.run.job ≡ true → p.due r.run.job r.run.at ≡ true
  pub civil : IsReached r.run.at
  pub begun : r.run.at ≤ r.since
  pub since : r.since ≤ t
  pub within : t < r.since + p.limit r.run.job
  pub at_once : waits p r.run.job ≡ false → r.since ≡ r.run.at
  pub hours : is_cron p r.run.job ≡ false → (p.from ≤ r.since % 1440) × (r.since % 1440 < p.to)
  pub busy : IsBusy p b r.run.job r.run.at t

-- what is left to do for group g
abbrev pub left_going : Plan → ℕ → ℕ → Going → ℕ
left_going p g t r = if locks p g r.run.job then (r.since + p.limit r.run.job) - t else 0

abbrev pub left_queued : Plan → ℕ → Run → ℕ
left_queued p g w = if locks p g w.job then p.limit w.job else 0

abbrev pub left_pending : Plan → ℕ → ℕ → ℕ
left_pending p g j = if locks p g j then p.limit j else 0

abbrev pub left : Plan → ℕ → ℕ → List ℕ → List Run → List Going → ℕ
left p g t js ws rs = total (left_going p g t) rs + total (left_queued p g) ws + total (left_pending p g) js

abbrev pub AreApart : Plan → List Going → Type 0
AreApart p rs = EachPair (λ r q. in_the_way p q.run.job r.run.job ≡ false) rs

pub record Kept (p : Plan) (b : ℕ → ℕ → ℕ) (t : ℕ) (js : List ℕ) (ws : List Run) (rs : List Going) : Type 0 where
  pub civil : IsReached t
  pub pending : AllByRecursion (IsPending p t) js
  pub queued : AllByRecursion (IsQueued p b t) ws
  pub goes : AllByRecursion (IsGoing p b t) rs
  pub apart : AreApart p rs
  pub work : (g : ℕ) → HasWaiter p g → left p g t js ws rs ≤ b g t + arrives p g t

pub kept_start : (p : Plan) (b : ℕ → ℕ → ℕ) (t : ℕ) → IsReached t → Kept p b t [] [] []
kept_start p b t c = record { civil = c; pending = tt; queued = tt; goes = tt; apart = tt; work = λ g _. omega arith }

pub kept_end : (p : Plan) (b : ℕ → ℕ → ℕ) (t : ℕ) (js : List ℕ) (ws : List Run) (rs : List Going) (s : Going → Bool) → Kept p b t js ws rs → Kept p b t js ws (filter s rs)
kept_end p b t js ws rs s k = record {
  civil = k.civil;
  pending = k.pending;
  queued = k.queued;
  goes = all-filter (IsGoing p b t) s rs k.goes;
  apart = pairs-filter (λ r q. in_the_way p q.run.job r.run.job ≡ false) s rs k.apart;
  work = λ g w. omega (arith, k.work g w, total-filter s (left_going p g t) rs);
}

pub kept_skip : (p : Plan) (b : ℕ → ℕ → ℕ) (t : ℕ) (js : List ℕ) (ws : List Run) (rs : List Going) (s : ℕ → Bool) → Kept p b t js ws rs → Kept p b t (filter s js) ws rs
kept_skip p b t js ws rs s k = record {
  civil = k.civil;
  queued = k.queued;
  goes = k.goes;
  apart = k.apart;
  pending = all-filter (IsPending p t) s js k.pending;
  work = λ g w. omega (arith, k.work g w, total-filter s (left_pending p g) js);
}

eq_term : (f : ℕ → ℕ) (j i : ℕ) → (j == i) ≡ true → f j ≤ f i
eq_term f j i e = let h : f j ≡ f i = ap f (eqb-true j i e) in omega (arith, h)

not_since : (p : Plan) (b : ℕ → ℕ → ℕ) (j t : ℕ) → IsBusy p b j t t
not_since p b j t g w l u a z = absurd (omega (arith, a, z))

-- a Begin is answered Waiting
pub kept_wait : (p : Plan) (b : ℕ → ℕ → ℕ) (t : ℕ) (js : List ℕ) (ws : List Run) (rs : List Going) (j : ℕ) → list_any (λ i. j == i) js ≡ true → waits p j ≡ true → Kept p b t js ws rs → Kept p b t (filter (λ i. not (j == i)) js) (ws ++ record { job = j; at = t } ∷ []) rs
kept_wait p b t js ws rs j e waiting k =
    let r : Run = record { job = j; at = t } in
    let found = any_at (λ i. j == i) (IsPending p t) js e k.pending in
    let same : j ≡ found.0 = eqb-true j found.0 found.1 in
    record {
      civil = k.civil;
      goes = k.goes;
      apart = k.apart;
      pending = all-filter (IsPending p t) (λ i. not (j == i)) js k.pending;
      queued = all_push (IsQueued p b t) ws r k.queued (record {
        cron = ap (is_cron p) same ∙ found.2.cron;
        waits = waiting;
        due = ap (λ i. p.due i t) same ∙ found.2.due;
        civil = k.civil;
        begun = omega arith;
        busy = not_since p b j t;
      });
      work = λ g w. omega (
        arith,
        k.work g w,
        total_push (left_queued p g) ws r,
        total_without (λ i. j == i) (left_pending p g) (left_pending p g j) js (eq_term (left_pending p g) j) e,
      );
    }

new_left : (s : Bool) (t l : ℕ) → (if s then (t + l) - t else 0) ≡ (if s then l else 0)
new_left true t l = omega arith
new_left false t l = refl

cron_known : (p : Plan) → IsPlan p → (j : ℕ) → is_cron p j ≡ true → j < p.jobs
cron_known p plan j e = let h = ltb-true j p.crons e in omega (arith, plan.crons, h)

-- a cron job that starts when it is due
pub fresh : (p : Plan) (b : ℕ → ℕ → ℕ) (t j : ℕ) → IsPlan p → IsReached t → is_cron p j ≡ true → p.due j t ≡ true → IsGoing p b t (going j t t)
fresh p b t j plan civil cron due =
    let limit : 0 < p.limit j = plan.limits j in
    record {
      known = cron_known p plan j cron;
      due = λ _. due;
      civil = civil;
      begun = omega arith;
      since = omega arith;
      within = omega (arith, limit);
      at_once = λ _. refl;
      hours = λ (c : is_cron p j ≡ false). absurd (both_ways (is_cron p j) c cron);
      busy = not_since p b j t;
    }

-- a Begin is answered Started
pub kept_begin : (p : Plan) (b : ℕ → ℕ → ℕ) (t : ℕ) (js : List ℕ) (ws : List Run) (rs : List Going) (j : ℕ) → IsPlan p → list_any (λ i. j == i) js ≡ true → is_free p rs j ≡ true → Kept p b t js ws rs → Kept p b t (filter (λ i. not (j == i)) js) ws (rs ++ going j t t ∷ [])
kept_begin p b t js ws rs j plan e free k =
    let r : Going = going j t t in
    let found = any_at (λ i. j == i) (IsPending p t) js e k.pending in
    let same : j ≡ found.0 = eqb-true j found.0 found.1 in
    let cron : is_cron p j ≡ true = ap (is_cron p) same ∙ found.2.cron in
    record {
      civil = k.civil;
      queued = k.queued;
      pending = all-filter (IsPending p t) (λ i. not (j == i)) js k.pending;
      goes = all_push (IsGoing p b t) rs r k.goes (fresh p b t j plan k.civil cron (ap (λ i. p.due i t) same ∙ found.2.due));
      apart = pairs_push (λ r q. in_the_way p q.run.job r.run.job ≡ false) rs r k.apart (none_passes (λ r. in_the_way p j r.run.job) rs (not-true _ free));
      work = λ g w. omega (
        arith,
        k.work g w,
        total_push (left_going p g t) rs r,
        new_left (locks p g j) t (p.limit j),
        total_without (λ i. j == i) (left_pending p g) (left_pending p g j) js (eq_term (left_pending p g) j) e,
      );
    }

run_term : (f : Run → ℕ) (r q : Run) → same_run r q ≡ true → f r ≤ f q
run_term f r q e = let h : f r ≡ f q = ap f (run_is r q e) in omega (arith, h)

pub kept_got : (p : Plan) (b : ℕ → ℕ → ℕ) (t : ℕ) (js : List ℕ) (ws : List Run) (rs : List Going) (w : Run) → IsPlan p → list_any (same_run w) ws ≡ true → is_free p rs w.job ≡ true → Kept p b t js ws rs → Kept p b t js (filter (λ v. not (same_run w v)) ws) (rs ++ going w.job w.at t ∷ [])
kept_got p b t js ws rs w plan e free k =
    let r : Going = going w.job w.at t in
    let found = any_at (same_run w) (IsQueued p b t) ws e k.queued in
    let q : IsQueued p b t w = subst (IsQueued p b t) (sym (run_is w found.0 found.1)) found.2 in
    let limit : 0 < p.limit w.job = plan.limits w.job in
    record {
      civil = k.civil;
      pending = k.pending;
      queued = all-filter (IsQueued p b t) (λ v. not (same_run w v)) ws k.queued;
      goes = all_push (IsGoing p b t) rs r k.goes (record {
        known = cron_known p plan w.job q.cron;
        due = λ _. q.due;
        civil = q.civil;
        begun = q.begun;
        since = omega arith;
        within = omega (arith, limit);
        at_once = λ (c : waits p w.job ≡ false). absurd (both_ways (waits p w.job) c q.waits);
        hours = λ (c : is_cron p w.job ≡ false). absurd (both_ways (is_cron p w.job) c q.cron);
        busy = q.busy;
      });
      apart = pairs_push (λ r q. in_the_way p q.run.job r.run.job ≡ false) rs r k.apart (none_passes (λ r. in_the_way p w.job r.run.job) rs (not-true _ free));
      work = λ g h. omega (
        arith,
        k.work g h,
        total_push (left_going p g t) rs r,
        new_left (locks p g w.job) t (p.limit w.job),
        total_without (same_run w) (left_queued p g) (left_queued p g w) ws (run_term (left_queued p g) w) e,
      );
    }

no_lock : (p : Plan) (g j : ℕ) → takes_lock p j ≡ false → locks p g j ≡ false
no_lock p g j e = ap (λ x. x && belongs p g j) e

pub kept_catch : (p : Plan) (b : ℕ → ℕ → ℕ) (t : ℕ) (js : List ℕ) (ws : List Run) (rs : List Going) (j : ℕ) → IsPlan p → is_cron p j ≡ false → j < p.jobs → p.from ≤ t % 1440 → t % 1440 < p.to → Kept p b t js ws rs → Kept p b t js ws (rs ++ going j t t ∷ [])
kept_catch p b t js ws rs j plan anacron known from to k =
    let r : Going = going j t t in
    let limit : 0 < p.limit j = plan.limits j in
    let free : takes_lock p j ≡ false = plan.anacron_plain j anacron in
    record {
      civil = k.civil;
      pending = k.pending;
      queued = k.queued;
      goes = all_push (IsGoing p b t) rs r k.goes (record {
        known = known;
        due = λ (c : is_cron p j ≡ true). absurd (both_ways (is_cron p j) anacron c);
        civil = k.civil;
        begun = omega arith;
        since = omega arith;
        within = omega (arith, limit);
        at_once = λ _. refl;
        hours = λ _. (from, to);
        busy = not_since p b j t;
      });
      apart = pairs_push (λ r q. in_the_way p q.run.job r.run.job ≡ false) rs r k.apart (all_any (λ q. in_the_way p j q.run.job ≡ false) rs (λ q. ap (λ x. (x && takes_lock p q.run.job) && (same_group p j q.run.job && not (both_share p j q.run.job))) free));
      work = λ g w. omega (arith, k.work g w, total_push (left_going p g t) rs r, ap (λ (x : Bool). if x then (t + p.limit j) - t else 0) (no_lock p g j free));
    }
