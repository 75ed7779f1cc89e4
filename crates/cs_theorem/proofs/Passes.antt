-- Time passes: a minute, or an outage.
use Rattle.std.proofs.Common.{ℕ, zero, suc, ◌+◌, ◌-◌, ◌<◌, ◌≤◌, ◌≡◌, Bool, true, false, ◌||◌, if◌then◌else◌, List, [], ◌∷◌, refl, ap, arith, ⊎_elim}
use Rattle.std.specs.List.{AllByRecursion, list_any}
use Rattle.std.proofs.lemmas.Bool.{lt-ltb, cases_lt, cases_Bool, not-false, false_from_ne_true, both_ways}
use Rattle.cs_history.specs.Lists.{total, below}
use Rattle.cs_history.specs.Plan.{first_start, Plan, is_cron, locks, in_the_way, due_at, IsReached}
use Rattle.cs_civil.specs.Calendar.{last_minute}
use Rattle.cs_history.specs.History.{is_free, IsWithin}
use Rattle.cs_history.specs.declared.run.Run.{Run}
use Rattle.cs_history.specs.declared.run.Going.{Going}
use Rattle.cs_history.specs.Calm.{arrives, HasWaiter, IsBounded}
use Rattle.cs_history.proofs.Lists.{all_map, all_zip, all_any, all-filter, all_passes, none_passes, any_at, all_below, total_le, total_zero, all_terms}
use Rattle.cs_theorem.proofs.Locks.{way_locks}
use Rattle.cs_theorem.proofs.Kept.{IsBusy, IsPending, IsQueued, IsGoing, left_going, left_queued, Kept}

less_later : (s : Bool) (t u a : ℕ) → t ≤ u → (if s then a - u else 0) ≤ (if s then a - t else 0)
less_later true t u a l = omega (arith, l)
less_later false t u a l = omega arith

module _ (p : Plan) (g t u : ℕ) (l : t ≤ u) where
  less : (rs : List Going) → total (left_going p g u) rs ≤ total (left_going p g t) rs
  less rs = total_le (left_going p g u) (left_going p g t) rs (all_any (λ r. left_going p g u r ≤ left_going p g t r) rs (λ r. less_later (locks p g r.run.job) t u (r.since + p.limit r.run.job) l))

  falls_step : (s any : Bool) (a x y : ℕ) → u < a → x ≤ y → (any ≡ true → x + (u - t) ≤ y) → (s || any) ≡ true → (if s then a - u else 0) + x + (u - t) ≤ (if s then a - t else 0) + y
  falls_step true any a x y within less ih e = omega (arith, l, within, less)
  falls_step false any a x y within less ih e = omega (arith, ih e)

  -- where a run holds the lock, what is left falls by the time that passes
  pub falls : (rs : List Going) → AllByRecursion (IsWithin p u) rs → list_any (λ r. locks p g r.run.job) rs ≡ true → total (left_going p g u) rs + (u - t) ≤ total (left_going p g t) rs
  falls [] a e = absurd (cc)
  falls (r ∷ rs) a e = falls_step (locks p g r.run.job) (list_any (λ q. locks p g q.run.job) rs) (r.since + p.limit r.run.job) (total (left_going p g u) rs) (total (left_going p g t) rs) a.0 (less rs) (falls rs a.1) e

-- where none does, nothing is left of those that run
pub idle : (p : Plan) (g u : ℕ) (rs : List Going) → list_any (λ r. locks p g r.run.job) rs ≡ false → total (left_going p g u) rs ≡ 0
idle p g u rs e = total_zero (left_going p g u) rs (all_map (λ r. locks p g r.run.job ≡ false) (λ r. left_going p g u r ≡ 0) rs (λ r h. ap (λ (s : Bool). if s then (r.since + p.limit r.run.job) - u else 0) h) (none_passes (λ r. locks p g r.run.job) rs e))

module _ (p : Plan) (c : ℕ → ℕ) (b : ℕ → ℕ → ℕ) (bounded : IsBounded p c b) where
  one_on : (g u v : ℕ) → HasWaiter p g → IsReached u → IsReached v → v ≡ u + 1 → b g u + arrives p g u ≤ b g v + 1
  one_on g u v w h hv e = let f = (bounded g w).falls u h (record { first = omega (arith, h.first); last = omega (arith, hv.last, e) }) in let q : b g v ≡ b g (u + 1) = ap (b g) e in omega (arith, f, q)

  -- the bound falls by no more than the time that passes
  later : (g t : ℕ) → HasWaiter p g → first_start ≤ t → (k u : ℕ) → u ≡ t + 1 + k → u ≤ last_minute → b g t + arrives p g t ≤ b g u + (u - t)
  later g t w first zero u e last = omega (arith, one_on g t u w (record { first = first; last = omega (arith, e, last) }) (record { first = omega (arith, first, e); last = last }) (omega (arith, e)), e)
  later g t w first (suc k) u e last =
      let v : ℕ = t + 1 + k in
      omega (arith, later g t w first k v refl (omega (arith, e, last)), one_on g v u w (record { first = omega (arith, first); last = omega (arith, e, last) }) (record { first = omega (arith, first, e); last = last }) (omega (arith, e)), e)

  pub bound_later : (g t u : ℕ) → HasWaiter p g → IsReached t → IsReached u → t < u → b g t + arrives p g t ≤ b g u + (u - t)
  bound_later g t u w a z l = later g t w a.first (u - t - 1) u (omega (arith, l)) z.last

  module _ (t u : ℕ) (js : List ℕ) (ws : List Run) (rs : List Going) (k : Kept p b t js ws rs) (l : t ≤ u) (civil : IsReached u) (within : AllByRecursion (IsWithin p u) rs) where
    -- the work of g that is left with this run alone
    alone_left : (g : ℕ) → HasWaiter p g → (r : Going) → locks p g r.run.job ≡ true → left_going p g t r ≤ total (left_going p g t) rs → (r.since + p.limit r.run.job) - t ≤ b g t + arrives p g t
    alone_left g w r e h = let q : left_going p g t r ≡ (r.since + p.limit r.run.job) - t = ap (λ (s : Bool). if s then (r.since + p.limit r.run.job) - t else 0) e in omega (arith, k.work g w, h, q)

    busy_later : (r : Going) → IsGoing p b t r → IsWithin p u r → ((g : ℕ) → left_going p g t r ≤ total (left_going p g t) rs) → IsBusy p b r.run.job r.run.at u
    busy_later r q e h g w lock v after before =
        ⊎_elim (λ (z : t < v). let civil_v : IsReached v = record { first = omega (arith, k.civil.first, z); last = omega (arith, civil.last, before) } in omega (arith, alone_left g w r lock (h g), bound_later g t v w k.civil civil_v z, e, before))
        (λ (z : v ≤ t). q.busy g w lock v after z) (cases_lt t v)

    goes_later : AllByRecursion (IsGoing p b u) rs
    goes_later = all_zip (λ r. IsGoing p b t r × IsWithin p u r) (λ r. (g : ℕ) → left_going p g t r ≤ total (left_going p g t) rs) (IsGoing p b u) rs
        (λ r q h. record {
          known = q.0.known;
          due = q.0.due;
          civil = q.0.civil;
          begun = q.0.begun;
          since = omega (arith, q.0.since, l);
          within = q.1;
          at_once = q.0.at_once;
          hours = q.0.hours;
          busy = busy_later r q.0 q.1 h;
        })
        (all_zip (IsGoing p b t) (IsWithin p u) (λ r. IsGoing p b t r × IsWithin p u r) rs (λ r x y. (x, y)) k.goes within)
        (all_terms (λ g. left_going p g t) rs)

    work_up : (g : ℕ) → HasWaiter p g → total (left_going p g u) rs ≤ b g u + arrives p g u
    work_up g w =
        ⊎_elim (λ (e : list_any (λ r. locks p g r.run.job) rs ≡ true).
        ⊎_elim (λ (z : t < u). omega (arith, falls p g t u l rs within e, k.work g w, bound_later g t u w k.civil civil z))
        (λ (z : u ≤ t). let q : t ≡ u = omega (arith, l, z) in
        let x : total (left_going p g u) rs ≤ total (left_going p g t) rs = less p g t u l rs in
        let y : b g t + arrives p g t ≡ b g u + arrives p g u = ap (λ v. b g v + arrives p g v) q in omega (arith, x, y, k.work g w)) (cases_lt t u))
        (λ (e : list_any (λ r. locks p g r.run.job) rs ≡ false). omega (arith, idle p g u rs e)) (cases_Bool (list_any (λ r. locks p g r.run.job) rs))

    pub kept_up : Kept p b u [] [] rs
    kept_up = record {
      civil = civil;
      pending = tt;
      queued = tt;
      goes = goes_later;
      apart = k.apart;
      work = λ g w. omega (arith, work_up g w);
    }

    -- the next minute, where all is settled
    module _ (next : u ≡ t + 1) (held : list_any (λ w. is_free p rs w.job) ws ≡ false) where
      -- who waits for the lock of g has a run before him, with more than a minute to go
      behind : (g : ℕ) → HasWaiter p g → (w : Run) → locks p g w.job ≡ true → is_free p rs w.job ≡ false → (list_any (λ r. locks p g r.run.job) rs ≡ true) × (2 ≤ b g t + arrives p g t)
      behind g wt w lock e =
          let found = any_at (λ r. in_the_way p w.job r.run.job) (λ r. IsWithin p u r × ((g : ℕ) → left_going p g t r ≤ total (left_going p g t) rs)) rs (not-false _ e)
          (all_zip (IsWithin p u) (λ r. (g : ℕ) → left_going p g t r ≤ total (left_going p g t) rs) (λ r. IsWithin p u r × ((g : ℕ) → left_going p g t r ≤ total (left_going p g t) rs)) rs (λ r x y. (x, y)) within (all_terms (λ g. left_going p g t) rs)) in
          let r : Going = found.0 in
          let h : locks p g r.run.job ≡ true = way_locks p g w.job r.run.job lock found.1 in
          let a : (r.since + p.limit r.run.job) - t ≤ b g t + arrives p g t = alone_left g wt r h (found.2.1 g) in
          let z : u < r.since + p.limit r.run.job = found.2.0 in (
            ⊎_elim (λ q. q) (λ (q : list_any (λ r. locks p g r.run.job) rs ≡ false).
                let other = any_at (λ r. in_the_way p w.job r.run.job) (λ r. locks p g r.run.job ≡ false) rs (not-false _ e) (none_passes (λ r. locks p g r.run.job) rs q) in
                absurd (both_ways (locks p g other.0.run.job) other.2 (way_locks p g w.job other.0.run.job lock other.1))) (cases_Bool (list_any (λ r. locks p g r.run.job) rs)),
            omega (arith, a, z, next),
          )

      queued_later : AllByRecursion (IsQueued p b u) ws
      queued_later = all_zip (IsQueued p b t) (λ w. is_free p rs w.job ≡ false) (IsQueued p b u) ws
          (λ w q e. record {
            cron = q.cron;
            waits = q.waits;
            due = q.due;
            civil = q.civil;
            begun = omega (arith, q.begun, l);
            busy = λ g wt lock v after before.
                ⊎_elim (λ (z : t < v).
                let h = (behind g wt w lock e).1 in
                let x = one_on g t u wt k.civil civil next in
                let y : b g u ≡ b g v = ap (b g) (omega (arith, z, before, next)) in
                omega (arith, h, x, y))
                (λ (z : v ≤ t). q.busy g wt lock v after z) (cases_lt t v);
          })
          k.queued (none_passes (λ w. is_free p rs w.job) ws held)

      waiters_left : (g : ℕ) → HasWaiter p g → list_any (λ r. locks p g r.run.job) rs ≡ false → total (left_queued p g) ws ≡ 0
      waiters_left g wt q = total_zero (left_queued p g) ws (all_map (λ w. is_free p rs w.job ≡ false) (λ w. left_queued p g w ≡ 0) ws
          (λ w e. ap (λ (s : Bool). if s then p.limit w.job else 0) (false_from_ne_true (locks p g w.job) (λ lock. both_ways (list_any (λ r. locks p g r.run.job) rs) q (behind g wt w lock e).0)))
          (none_passes (λ w. is_free p rs w.job) ws held))

      work_minute : (g : ℕ) → HasWaiter p g → total (left_going p g u) rs + total (left_queued p g) ws ≤ b g u
      work_minute g w =
          ⊎_elim (λ (e : list_any (λ r. locks p g r.run.job) rs ≡ true). omega (arith, falls p g t u l rs within e, k.work g w, one_on g t u w k.civil civil next, next))
          (λ (e : list_any (λ r. locks p g r.run.job) rs ≡ false). omega (arith, idle p g u rs e, waiters_left g w e)) (cases_Bool (list_any (λ r. locks p g r.run.job) rs))

      pub kept_minute : Kept p b u (due_at p u) ws rs
      kept_minute = record {
        civil = civil;
        pending = all_zip (λ j. p.due j u ≡ true) (λ j. is_cron p j ≡ true) (IsPending p u) (due_at p u) (λ j d c. record { cron = c; due = d }) (all_passes (λ j. p.due j u) (below p.crons))
            (all-filter (λ j. is_cron p j ≡ true) (λ j. p.due j u) (below p.crons) (all_map (λ j. j < p.crons) (λ j. is_cron p j ≡ true) (below p.crons) (λ j h. lt-ltb j p.crons h) (all_below p.crons)));
        queued = queued_later;
        goes = goes_later;
        apart = k.apart;
        work = λ g w. omega (arith, work_minute g w);
      }
