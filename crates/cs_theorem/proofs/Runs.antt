-- Every legal history in time keeps it, and so each run is in its window.
use Rattle.std.proofs.Common.{ℕ, ◌+◌, ◌-◌, ◌%◌, ◌<◌, ◌≤◌, ◌≡◌, Bool, true, false, not, ◌&&◌, if◌then◌else◌, List, filter, refl, ap, ◌∙◌, subst, arith, ◌==◌, ⊎_elim}
use Rattle.std.specs.List.{AllByRecursion, list_any}
use Rattle.std.proofs.lemmas.Bool.{and_parts, eq-eqb, cases_lt, not-false, both_ways}
use Rattle.cs_history.specs.Plan.{Plan, takes, waits_in, is_cron, takes_lock, waits, locks, in_the_way, IsPlan, IsReached}
use Rattle.cs_history.specs.declared.mode.Mode.{Mode}
use Rattle.cs_history.specs.declared.mode.Mode.TheVariants.{Plain, Skip, Try, Wait, Shared}
use Rattle.cs_history.specs.History.{going, History, From, ◌▸◌, same_run, now, is_free, running, Starts, when_held, with_started, with_waiting, run_of, pending, waiting, IsLegal, IsInTime, IsWithin}
use Rattle.cs_history.specs.declared.run.Run.{Run}
use Rattle.cs_history.specs.declared.run.Going.{Going}
use Rattle.cs_history.specs.declared.event.Event.TheVariants.{Minute, Begin, Got, Catch, End, Down, Up}
use Rattle.cs_history.specs.Calm.{opens, reach, Holds, window_of, HasWaiter, IsBounded}
use Rattle.cs_history.proofs.Lists.{all_map, all_any, any_at}
use Rattle.cs_history.specs.Names.{jobs_left}
use Rattle.cs_history.proofs.Names.{named}
use Rattle.cs_theorem.proofs.Locks.{waits_takes, locks_of}
use Rattle.cs_theorem.proofs.Kept.{IsGoing, Kept, kept_start, kept_end, kept_skip, kept_wait, kept_begin, kept_got, kept_catch}
use Rattle.cs_theorem.proofs.Passes.{kept_up, kept_minute}

pub takes_where_held : (p : Plan) (rs : List Going) (j : ℕ) → is_free p rs j ≡ false → takes_lock p j ≡ true
takes_where_held p rs j e =
    let found = any_at (λ r. in_the_way p j r.run.job) (λ _. Unit {0}) rs (not-false _ e) (all_any (λ _. Unit {0}) rs (λ _. tt)) in
    (and_parts (takes_lock p j) (takes_lock p found.0.run.job) (and_parts (takes_lock p j && takes_lock p found.0.run.job) _ found.1).0).0

begin_step : (p : Plan) (b : ℕ → ℕ → ℕ) (t : ℕ) (js : List ℕ) (ws : List Run) (rs : List Going) (j : ℕ) → IsPlan p → list_any (λ i. j == i) js ≡ true → Kept p b t js ws rs → (f : Bool) (m : Mode) → is_free p rs j ≡ f → p.mode j ≡ m
    → Kept p b t (filter (λ i. not (j == i)) js) (with_waiting (if f then Starts else when_held m) ws (run_of j t)) (with_started (if f then Starts else when_held m) rs (going j t t))
begin_step p b t js ws rs j plan e k true m free is = kept_begin p b t js ws rs j plan e free k
begin_step p b t js ws rs j plan e k false Plain free is = absurd (both_ways (takes_lock p j) (ap takes is) (takes_where_held p rs j free))
begin_step p b t js ws rs j plan e k false Skip free is = kept_skip p b t js ws rs (λ i. not (j == i)) k
begin_step p b t js ws rs j plan e k false Try free is = kept_skip p b t js ws rs (λ i. not (j == i)) k
begin_step p b t js ws rs j plan e k false Wait free is = kept_wait p b t js ws rs j e (ap waits_in is) k
begin_step p b t js ws rs j plan e k false Shared free is = kept_wait p b t js ws rs j e (ap waits_in is) k

module _ (p : Plan) (c : ℕ → ℕ) (b : ℕ → ℕ → ℕ) (plan : IsPlan p) (bounded : IsBounded p c b) where
  abbrev pub KeptAt : History → Type 0
  KeptAt h = Kept p b (now h) (pending p h) (waiting p h) (running p h)

  within_now : (h : History) → KeptAt h → AllByRecursion (IsWithin p (now h)) (running p h)
  within_now h k = all_map (IsGoing p b (now h)) (IsWithin p (now h)) (running p h) (λ r q. q.within) k.goes

  pub kept : (h : History) → IsLegal p h → IsInTime p h → KeptAt h
  kept (From s) legal time = kept_start p b s.now legal
  kept (h ▸ Minute t) legal time =
      let k = kept h legal.0 time.0 in
      kept_minute p c b bounded (now h) t (pending p h) (waiting p h) (running p h) k (omega (arith, legal.1.next)) (record { first = omega (arith, k.civil.first, legal.1.next); last = legal.1.civil.last }) time.1 legal.1.next legal.1.settled.held
  kept (h ▸ Begin j) legal time = begin_step p b (now h) (pending p h) (waiting p h) (running p h) j plan legal.1.is_pending (kept h legal.0 time) (is_free p (running p h) j) (p.mode j) refl refl
  kept (h ▸ Got j d) legal time = kept_got p b (now h) (pending p h) (waiting p h) (running p h) (record { job = j; at = d }) plan legal.1.is_waiting legal.1.free (kept h legal.0 time)
  kept (h ▸ Catch j) legal time =
      let q = subst (λ o. AllByRecursion (λ i. (is_cron p i ≡ false) × (i < p.jobs)) (jobs_left o)) legal.1.first (named p h legal.0).pass in
      kept_catch p b (now h) (pending p h) (waiting p h) (running p h) j plan q.0.0 q.0.1 legal.1.from legal.1.to (kept h legal.0 time)
  kept (h ▸ End r) legal time = kept_end p b (now h) (pending p h) (waiting p h) (running p h) (λ x. not (same_run r x.run)) (kept h legal.0 time)
  kept (h ▸ Down) legal time =
      let k = kept h legal.0 time in
      kept_up p c b bounded (now h) (now h) (pending p h) (waiting p h) (running p h) k (omega arith) k.civil (within_now h k)
  kept (h ▸ Up t) legal time =
      let k = kept h legal.0 time.0 in
      kept_up p c b bounded (now h) t (pending p h) (waiting p h) (running p h) k legal.1.later (record { first = omega (arith, k.civil.first, legal.1.later); last = legal.1.civil.last }) time.1

  cron_reach : (t : ℕ) (r : Going) → IsReached t → IsGoing p b t r → is_cron p r.run.job ≡ true → (s : Bool) → waits p r.run.job ≡ s → t < r.run.at + (if s then c r.run.job else p.limit r.run.job)
  cron_reach t r civil q cron true e =
      let takes : takes_lock p r.run.job ≡ true = waits_takes (p.mode r.run.job) e in
      let of = plan.lock_has_group r.run.job takes in
      let lock : locks p of.0 r.run.job ≡ true = locks_of p of.0 r.run.job takes of.1 in
      let w : HasWaiter p of.0 = record { job = r.run.job; cron = cron; waits = e; locks = lock } in
      let z = (bounded of.0 w).clears r.run.job r.run.at cron e lock q.civil (q.due cron) in
      ⊎_elim (λ (h : t < z.0). omega (arith, z.2, h)) (λ (h : z.0 ≤ t). let x = q.busy of.0 w lock z.0 z.1 h in absurd (omega (arith, x, z.3 (record { first = omega (arith, q.civil.first, z.1); last = omega (arith, civil.last, h) })))) (cases_lt t z.0)
  cron_reach t r civil q cron false e = omega (arith, q.within, q.at_once e)

  window_at : (s : Bool) (r : Going) → is_cron p r.run.job ≡ s → (window_of p r).at ≡ (if s then r.run.at else (r.since - r.since % 1440 + p.from))
  window_at s r e = ap (λ (x : Bool). if x then r.run.at else (r.since - r.since % 1440 + p.from)) e

  reach_of : (s : Bool) (r : Going) → is_cron p r.run.job ≡ s → reach p c r.run.job ≡ (if s then (if waits p r.run.job then c r.run.job else p.limit r.run.job) else ((p.to - 1 + p.limit r.run.job) - p.from))
  reach_of s r e = ap (λ (x : Bool). if x then (if waits p r.run.job then c r.run.job else p.limit r.run.job) else ((p.to - 1 + p.limit r.run.job) - p.from)) e

  opens_of : (s : Bool) (r : Going) (d : ℕ) → is_cron p r.run.job ≡ s → opens p r.run.job d ≡ (if s then p.due r.run.job d else (d % 1440 == p.from))
  opens_of s r d e = ap (λ (x : Bool). if x then p.due r.run.job d else (d % 1440 == p.from)) e

  window_step : (t : ℕ) (r : Going) → IsReached t → IsGoing p b t r → (s : Bool) → is_cron p r.run.job ≡ s → Holds p c t (window_of p r)
  window_step t r civil q true e = record {
    known = q.known;
    opens = opens_of true r (window_of p r).at e ∙ (ap (p.due r.run.job) (window_at true r e) ∙ q.due e);
    begun = omega (arith, q.begun, q.since, window_at true r e);
    lasts = omega (arith, window_at true r e, reach_of true r e, cron_reach t r civil q e (waits p r.run.job) refl);
  }
  window_step t r civil q false e =
      let h = q.hours e in
      let w = window_at false r e in
      record {
        known = q.known;
        opens = opens_of false r (window_of p r).at e ∙ eq-eqb ((window_of p r).at % 1440) p.from (omega (arith, w, h, plan.hours));
        begun = omega (arith, w, h, q.since);
        lasts = omega (arith, w, reach_of false r e, h, q.within, plan.hours);
      }

  pub in_window : (t : ℕ) (r : Going) → IsReached t → IsGoing p b t r → Holds p c t (window_of p r)
  in_window t r civil q = window_step t r civil q (is_cron p r.run.job) refl

  pub runs_in_windows : (h : History) → IsLegal p h → IsInTime p h → AllByRecursion (λ r. Holds p c (now h) (window_of p r)) (running p h)
  runs_in_windows h legal time =
      let k = kept h legal time in
      all_map (IsGoing p b (now h)) (λ r. Holds p c (now h) (window_of p r)) (running p h) (λ r q. in_window (now h) r k.civil q) k.goes
