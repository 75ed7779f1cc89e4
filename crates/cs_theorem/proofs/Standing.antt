-- The windows of a stretch at a minute of its last day are those that hold this civil minute.
use Rattle.std.proofs.Common.{ℕ, ◌+◌, ◌-◌, ◌*◌, ◌/◌, ◌%◌, ◌<◌, ◌≤◌, ◌≡◌, max, min, Bool, true, false, map, refl, sym, ap, ◌∙◌, arith, ◌==◌, if◌then◌else◌}
use Rattle.std.specs.List.{range_with_len}
use Rattle.std.proofs.lemmas.Bool.{ltb-true, lt-ltb}
use Rattle.cs_history.specs.declared.run.Run.{Run}
use Rattle.cs_history.specs.Plan.{Plan, is_cron}
use Rattle.cs_history.specs.Calm.{opens, reach, Holds}
use Rattle.cs_windows.specs.Windows.{Job, windows_on}
use Rattle.cs_windows.specs.declared.window.Window.{Window}
use Rattle.cs_windows.specs.Window.{touches}
use Rattle.cs_theorem.specs.Windows.{holders}
use Rattle.cs_theorem.specs.Accepted.{begins_on, occupied, run_at, window_on}
use Rattle.cs_windows.proofs.Exact.{says_reaches}
use Rattle.cs_windows.proofs.Members.{Has, has_filter, filter_has}
use Rattle.cs_theorem.proofs.Below.{job_at, at_job}
use Rattle.cs_theorem.proofs.Exact.{windows_shown, shown_windows}

pub same_as_run : (p : Plan) (c : ℕ → ℕ) (d t : ℕ) (r : Run) → r.at ≤ t → t / 1440 ≡ d → run_at d (window_on p c d r) ≡ r
same_as_run p c d t r le is =
    let e : 1440 * (d - (d - r.at / 1440)) + r.at % 1440 ≡ r.at = omega (arith, le, is) in
    λ i. record { job = r.job; at = e i }

both_if : (b x y z w : Bool) → (b ≡ true → x ≡ z) → y ≡ w → (if b then x else y) ≡ (if b then z else w)
both_if true x y z w e f = e refl
both_if false x y z w e f = f

module _ {D : Type 0} (p : Plan) (c : ℕ → ℕ) (on : ℕ → D → ℕ → Bool) (x : ℕ → D)
    (tells : (j d m : ℕ) → is_cron p j ≡ true → m < 1440 → on j (x d) m ≡ p.due j (1440 * d + m)) where
  begins_is : (j d m : ℕ) → m < 1440 → begins_on p on j (x d) m ≡ opens p j (1440 * d + m)
  begins_is j d m lt =
      let e : m ≡ (1440 * d + m) % 1440 = omega (arith, lt) in
      both_if (is_cron p j) (on j (x d) m) (m == p.from) (p.due j (1440 * d + m)) ((1440 * d + m) % 1440 == p.from) (λ k. tells j d m k lt) (ap (λ (q : ℕ). q == p.from) e)

  pub holder_holds : (first n d m : ℕ) (w : Window) → m < 1440 → d + 1 ≡ first + n → Has (holders m (windows_on (occupied p on c) (map x (range_with_len first n)))) w → Holds p c (1440 * d + m) (run_at d w)
  holder_holds first n d m w lt is h =
      let f = filter_has (λ w. touches w m (m + 1)) (windows_on (occupied p on c) (map x (range_with_len first n))) w h in
      let s = windows_shown (occupied p on c) x first n w f.0 in
      let j = at_job (λ j. record { begins = begins_on p on j; lasts = reach p c j }) p.jobs w.job s.at s.listed in
      let day : s.day ≡ d - w.day_back = omega (arith, s.back, is) in
      let b : begins_on p on w.job (x s.day) w.from ≡ true = ap (λ (o : Job D). o.begins (x s.day) w.from) j.1 ∙ s.begins in
      let l : w.reach ≡ reach p c w.job = s.reach ∙ sym (ap (λ (o : Job D). o.lasts) j.1) in
      let t = ltb-true (max (m + 1440 * w.day_back) w.from) (min ((m + 1) + 1440 * w.day_back) (w.from + w.reach)) f.1 in
      record {
        known = j.0;
        opens = ap (λ (e : ℕ). opens p w.job (1440 * e + w.from)) (sym day) ∙ (sym (begins_is w.job s.day w.from s.from) ∙ b);
        begun = omega (arith, t, s.back, is);
        lasts = omega (arith, t, s.back, is, l);
      }

  pub holds_holder : (first n d m : ℕ) (r : Run) → m < 1440 → d + 1 ≡ first + n → ((j e k : ℕ) → j < p.jobs → k < 1440 → begins_on p on j (x e) k ≡ true → k + reach p c j ≤ 1440 * n) → Holds p c (1440 * d + m) r → Has (holders m (windows_on (occupied p on c) (map x (range_with_len first n)))) (window_on p c d r)
  holds_holder first n d m r lt is ends h =
      let e : ℕ = r.at / 1440 in
      let f : ℕ = r.at % 1440 in
      let low : f < 1440 = omega arith in
      let at : r.at ≡ 1440 * e + f = omega arith in
      let b : begins_on p on r.job (x e) f ≡ true = begins_is r.job e f low ∙ (ap (λ (q : ℕ). opens p r.job q) (sym at) ∙ h.opens) in
      let end : f + reach p c r.job ≤ 1440 * n = ends r.job e f h.known low b in
      let up : e ≤ d = omega (arith, at, h.begun, lt) in
      let long : 1440 * d + m < 1440 * e + f + reach p c r.job = omega (arith, at, h.lasts) in
      let here : first ≤ e = omega (arith, long, end, is) in
      let back : e + (d - e) + 1 ≡ first + n = omega (arith, up, is) in
      let w : Window = window_on p c d r in
      has_filter (λ w. touches w m (m + 1)) (windows_on (occupied p on c) (map x (range_with_len first n))) w
      (shown_windows (occupied p on c) x first n (d - e) f r.job (record { begins = begins_on p on r.job; lasts = reach p c r.job }) e here back low (job_at (λ j. record { begins = begins_on p on j; lasts = reach p c j }) p.jobs r.job h.known) b
      (says_reaches w (omega (arith, at, h.begun, h.lasts)) (omega (arith, long, up))))
      (lt-ltb (max (m + 1440 * (d - e)) f) (min ((m + 1) + 1440 * (d - e)) (f + reach p c r.job)) (omega (arith, at, h.begun, long, up)))
