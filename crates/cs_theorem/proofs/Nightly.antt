-- The premises can be met.
use Rattle.std.proofs.Common.{ℕ, ◌+◌, ◌-◌, ◌%◌, ◌<◌, ◌≤◌, ◌≡◌, Bool, true, false, cond, if◌then◌else◌, List, [], ◌∷◌, refl, sym, ap, ◌∙◌, subst, arith, ◌==◌, ⊎_elim}
use Rattle.std.specs.List.{AllByRecursion}
use Rattle.std.proofs.lemmas.Bool.{both_ways, eqb-true, lt-ltb, cases_lt, ne_eqb, eqb-false, cond-false}
use Rattle.cs_history.specs.declared.run.Run.{Run}
use Rattle.cs_history.specs.declared.mode.Mode.TheVariants.{Plain, Wait}
use Rattle.cs_history.specs.Lists.{total}
use Rattle.cs_history.specs.Plan.{takes, is_cron, locks, IsPlan, IsReached}
use Rattle.cs_history.specs.History.{same_run}
use Rattle.cs_history.specs.Calm.{opens, reach, Holds, load, AreDifferent, IsCalm, arrives, IsBounded}
use Rattle.cs_theorem.specs.Nightly.{nightly, nightly_reach, nightly_backlog}
use Rattle.cs_history.proofs.Names.{same_from}

pub nightly_plan : IsPlan nightly
nightly_plan = record {
  crons = omega arith;
  limits = λ j. omega arith;
  weights = λ j. omega arith;
  groups = λ j g e. let h : 0 ≡ g = cc in omega (arith, h);
  lock_has_group = λ j e. (0, refl);
  anacron_plain = λ j e. ap (λ (b : Bool). takes (if b then Wait else Plain)) e;
  hours = (omega arith, omega arith);
}

at_most : (l : Bool) → (if l then 10 else 0) ≤ 10
at_most true = omega arith
at_most false = omega arith

arrives_step : (f : ℕ → ℕ) → f 0 ≤ 10 → (s : Bool) → total f (cond s (0 ∷ []) []) ≤ (if s then 10 else 0)
arrives_step f l true = omega (arith, l)
arrives_step f l false = omega arith

backlog_is : (t m : ℕ) → t % 1440 ≡ m → nightly_backlog 0 t ≡ (if m == 0 then 0 else 10 - m)
backlog_is t m e = ap (λ (k : ℕ). if k == 0 then 0 else 10 - k) e

pos_backlog : (t m : ℕ) → t % 1440 ≡ m → 0 < m → nightly_backlog 0 t ≡ 10 - m
pos_backlog t m e l = backlog_is t m e ∙ cond-false (m == 0) 0 (10 - m) (ne_eqb m 0 (λ z. omega (arith, z, l)))

falls_step : (g t : ℕ) (s : Bool) → (t % 1440 == 0) ≡ s → (nightly_backlog g t + (if s then 10 else 0)) - 1 ≤ nightly_backlog g (t + 1)
falls_step g t true e =
    let z : t % 1440 ≡ 0 = eqb-true (t % 1440) 0 e in
    let a : nightly_backlog g t ≡ 0 = backlog_is t 0 z in
    let b : nightly_backlog g (t + 1) ≡ 10 - 1 = pos_backlog (t + 1) 1 (omega (arith, z)) (omega arith) in
    omega (arith, a, b)
falls_step g t false e =
    let n : t % 1440 ≡ 0 → ⊥ = eqb-false (t % 1440) 0 e in
    let a : nightly_backlog g t ≡ 10 - t % 1440 = pos_backlog t (t % 1440) refl (⊎_elim (λ h. h) (λ h. absurd (n (omega (arith, h)))) (cases_lt 0 (t % 1440))) in
    ⊎_elim (λ (h : 0 < (t + 1) % 1440). let b : nightly_backlog g (t + 1) ≡ 10 - (t + 1) % 1440 = pos_backlog (t + 1) ((t + 1) % 1440) refl h in omega (arith, a, b, h))
    (λ (h : (t + 1) % 1440 ≤ 0). omega (arith, a, h)) (cases_lt 0 ((t + 1) % 1440))

pub nightly_bounded : IsBounded nightly nightly_reach nightly_backlog
nightly_bounded g w = record {
  falls = λ t _ _. let x : arrives nightly g t ≤ (if t % 1440 == 0 then 10 else 0) = arrives_step (λ j. if locks nightly g j then 10 else 0) (at_most (locks nightly g 0)) (t % 1440 == 0) in omega (arith, x, falls_step g t (t % 1440 == 0) refl);
  clears = λ j d _ _ _ _ due. let z : d % 1440 ≡ 0 = eqb-true (d % 1440) 0 due in (d + 10, omega arith, omega arith, λ _. pos_backlog (d + 10) 10 (omega (arith, z)) (omega arith));
}

-- the open window is the job's latest
latest : (t : ℕ) (w : Run) → Holds nightly nightly_reach t w → (w.job ≡ 0) × (w.at % 1440 ≡ 0) × (t < w.at + 10)
latest t w h =
    let z : w.job ≡ 0 = omega (arith, h.known) in
    let o : opens nightly 0 w.at ≡ true = subst (λ j. opens nightly j w.at ≡ true) z h.opens in
    let l : t < w.at + reach nightly nightly_reach 0 = subst (λ j. t < w.at + reach nightly nightly_reach j) z h.lasts in
    (z, eqb-true (w.at % 1440) 0 o, l)

one_window : (t : ℕ) (v w : Run) → Holds nightly nightly_reach t v → Holds nightly nightly_reach t w → same_run v w ≡ true
one_window t v w a b =
    let x = latest t v a in let y = latest t w b in
    same_from v w (omega (arith, x.0, y.0)) (omega (arith, x.1, x.2, y.1, y.2, a.begun, b.begun))

one_load : (w : Run) → w.job ≡ 0 → load nightly (w ∷ []) ≤ 1
one_load w z = subst (λ (j : ℕ). load nightly (record { job = j; at = w.at } ∷ []) ≤ 1) (sym z) (omega arith)

some_load : (t : ℕ) (ws : List Run) → AreDifferent ws → AllByRecursion (Holds nightly nightly_reach t) ws → load nightly ws ≤ 1
some_load t [] d a = omega arith
some_load t (w ∷ []) d a = one_load w (latest t w a.0).0
some_load t (v ∷ w ∷ ws) d a = absurd (both_ways (same_run v w) d.0.0 (one_window t v w a.0 a.1.0))

pub nightly_calm : (t : ℕ) → IsReached t → IsCalm nightly nightly_reach t
nightly_calm t _ = record {
  exclusive = λ v w a b e _ _ _. absurd (both_ways (same_run v w) e (one_window t v w a b));
  beside = λ v w a b _ e. absurd (both_ways (is_cron nightly w.job) e (lt-ltb w.job 1 b.known));
  load = λ ws d a. some_load t ws d a;
  skip = λ v w _ _ a b e. absurd (both_ways (same_run v w) e (one_window t v w a b));
}
