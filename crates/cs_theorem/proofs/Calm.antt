-- Where the checker accepts, each minute is calm.
use Rattle.std.proofs.Common.{ℕ, ◌+◌, ◌-◌, ◌*◌, ◌/◌, ◌%◌, ◌<◌, ◌≤◌, ◌≡◌, Bool, true, false, not, ◌&&◌, ◌||◌, List, map, Option, Some, None, refl, sym, ap, ◌∙◌, subst, arith, ◌==◌, if◌then◌else◌, inl, ⊎_elim, ◌⊎◌}
use Rattle.std.specs.List.{AllByRecursion, list_any}
use Rattle.std.proofs.lemmas.Bool.{and_parts, and_from, eqb-true, eq-eqb, both_ways, false_from_ne_true}
use Rattle.cs_civil.specs.Calendar.{Kind, kind}
use Rattle.cs_civil.proofs.Following.{kind_possible}
use Rattle.cs_history.specs.declared.run.Run.{Run}
use Rattle.cs_history.specs.Lists.{total, greatest, below}
use Rattle.cs_history.specs.Plan.{Plan, is_cron, takes_lock, shares, locks, is_group, belongs, in_group_of, same_group, exclusive_group, rivals, IsPlan, IsReached, is_skip}
use Rattle.cs_history.specs.History.{same_run}
use Rattle.cs_history.specs.Calm.{reach, Holds, load, plain_load, lock_load, catch_load, IsCalm}
use Rattle.cs_history.proofs.Lists.{all_map, all_any, total_le, total-map, greatest-map}
use Rattle.cs_history.proofs.Names.{same_parts, same_from}
use Rattle.cs_theorem.proofs.Listed.{load_within}
use Rattle.cs_windows.specs.declared.window.Window.{Window}
use Rattle.cs_theorem.specs.Windows.{same_window, holders}
use Rattle.cs_theorem.specs.Certificate.{Certificate}
use Rattle.cs_theorem.specs.Accepted.{reach_in, begins_on, due_in, windows_of, IsLength, clash, blocks, run_in, run_at, window_on, windows_on_days, AreApart, AreWithin, AreFree, IsAccepted, IsByKind}
use Rattle.cs_windows.proofs.Members.{Has}
use Rattle.cs_theorem.proofs.Elements.{has_map, all_has, pair_has, any_has}
use Rattle.cs_theorem.proofs.Standing.{holds_holder, holder_holds, same_as_run}
use Rattle.cs_theorem.proofs.Stretches.{classes, on_days, due_tells}

the_group : (g : ℕ) (o : Option ℕ) → is_group g o ≡ true → o ≡ Some g
the_group g None e = absurd (cc)
the_group g (Some k) e = ap Some (sym (eqb-true g k e))

rival_step : (p : Plan) (i j : ℕ) (o : Option ℕ) → p.group i ≡ o → (exclusive_group p o && in_group_of p o j) ≡ true → rivals p j i ≡ true
rival_step p i j None is e = absurd (cc)
rival_step p i j (Some g) is e =
    let h = and_parts (p.exclusive g) (belongs p g j) e in
    let k : p.group j ≡ Some g = the_group g (p.group j) h.1 in
    ap (λ (o : Option ℕ). exclusive_group p o && in_group_of p o i) k ∙ and_from (p.exclusive g) (belongs p g i) h.0 (ap (is_group g) is ∙ eq-eqb g g refl)

rivals_both : (p : Plan) (i j : ℕ) → rivals p i j ≡ true → rivals p j i ≡ true
rivals_both p i j e = rival_step p i j (p.group i) refl e

third : (a b c : Bool) → (a && (b && not c)) ≡ false → a ≡ true → b ≡ true → c ≡ true
third true true true e h k = refl
third true true false e h k = sym e
third true false c e h k = absurd (cc)
third false b c e h k = absurd (cc)

no_clash : (p : Plan) (i j : ℕ) → clash p i j ≡ false → rivals p i j ≡ true → (is_cron p i || is_cron p j) ≡ true → (takes_lock p i ≡ true) × (takes_lock p j ≡ true)
no_clash p i j e r k = and_parts (takes_lock p i) (takes_lock p j) (third (rivals p i j) (is_cron p i || is_cron p j) (takes_lock p i && takes_lock p j) e r k)

or_left : (a b : Bool) → a ≡ true → (a || b) ≡ true
or_left a b e = ap (λ (x : Bool). x || b) e

or_right : (a b : Bool) → b ≡ true → (a || b) ≡ true
or_right true b e = refl
or_right false b e = e

free_step : (a b c d : Bool) → ((a && b) && (not c && d)) ≡ false → a ≡ true → b ≡ true → c ≡ false → d ≡ false
free_step true true true d e h k l = cc
free_step true true false d e h k l = e
free_step true false c d e h k l = cc
free_step false b c d e h k l = cc

pub load_jobs : (p : Plan) (f g : Window → Run) (ws : List Window) → ((w : Window) → (f w).job ≡ (g w).job) → load p (map f ws) ≤ load p (map g ws)
load_jobs p f g ws same =
    let t = λ (h : ℕ → ℕ). let e : total (λ (r : Run). h r.job) (map f ws) ≡ total (λ (r : Run). h r.job) (map g ws) =
    total-map (λ (r : Run). h r.job) f ws ∙ (ap (λ (k : Window → ℕ). total (λ w. h (k w)) ws) (λ i w. same w i) ∙ sym (total-map (λ (r : Run). h r.job) g ws)) in e in
    let u = λ (h : ℕ → ℕ). let e : greatest (λ (r : Run). h r.job) (map f ws) ≡ greatest (λ (r : Run). h r.job) (map g ws) =
    greatest-map (λ (r : Run). h r.job) f ws ∙ (ap (λ (k : Window → ℕ). greatest (λ w. h (k w)) ws) (λ i w. same w i) ∙ sym (greatest-map (λ (r : Run). h r.job) g ws)) in e in
    let x : plain_load p (map f ws) ≡ plain_load p (map g ws) = t (λ (j : ℕ). if is_cron p j && not (takes_lock p j) then p.weight j else 0) in
    let z : catch_load p (map f ws) ≡ catch_load p (map g ws) = u (λ (j : ℕ). if not (is_cron p j) then p.weight j else 0) in
    let y = total_le (lock_load p (map f ws)) (lock_load p (map g ws)) (below p.groups) (all_any (λ (k : ℕ). lock_load p (map f ws) k ≤ lock_load p (map g ws) k) (below p.groups) (λ (k : ℕ).
    let v = u (λ (j : ℕ). if locks p k j && not (shares p j) then p.weight j else 0) in
    let q = t (λ (j : ℕ). if locks p k j && shares p j then p.weight j else 0) in
    omega (arith, v, q))) in
    omega (arith, x, y, z)

module _ (p : Plan) (plan : IsPlan p) (on : ℕ → Kind → ℕ → Bool) (by : IsByKind p on) (a : Certificate) (n : ℕ) (long : IsLength p on (reach_in p a) n) (ok : IsAccepted p on a n) where
  -- no window of the classes of days outlasts the stretch
  ends : (j e k : ℕ) → j < p.jobs → k < 1440 → begins_on p (due_in a) j (a.class_of (kind e)) k ≡ true → k + reach p (reach_in p a) j ≤ 1440 * n
  ends j e k known lt b = long.ends j k (kind e) known lt (kind_possible e) (same_if (is_cron p j) (on j (kind e) k) (k == p.from) (due_in a j (a.class_of (kind e)) k) (λ (c : is_cron p j ≡ true). sym (ok.due (kind e) (kind_possible e) j k c lt)) b)
    where
      same_if : (b x y z : Bool) → (b ≡ true → x ≡ z) → (if b then z else y) ≡ true → (if b then x else y) ≡ true
      same_if true x y z e h = e refl ∙ h
      same_if false x y z e h = h

  module _ (d m first : ℕ) (lt : m < 1440) (is : d + 1 ≡ first + n) where
    held : List Window
    held = holders m (windows_of p a (classes a first n))

    pub put : (v : Run) → Holds p (reach_in p a) (1440 * d + m) v → Has (holders m (windows_on_days p a first n)) (window_on p (reach_in p a) d v)
    put v h = holds_holder p (reach_in p a) (due_in a) (λ e. a.class_of (kind e)) (due_tells p on a n ok by) first n d m v lt is ends h

    pub only : (w : Window) → Has (holders m (windows_on_days p a first n)) w → Holds p (reach_in p a) (1440 * d + m) (run_at d w)
    only w h = holder_holds p (reach_in p a) (due_in a) (λ e. a.class_of (kind e)) (due_tells p on a n ok by) first n d m w lt is h

    back : (v : Run) → Holds p (reach_in p a) (1440 * d + m) v → run_at d (window_on p (reach_in p a) d v) ≡ v
    back v h = same_as_run p (reach_in p a) d (1440 * d + m) v h.begun (omega (arith, lt))

    apart_runs : (v w : Run) → Holds p (reach_in p a) (1440 * d + m) v → Holds p (reach_in p a) (1440 * d + m) w → same_run v w ≡ false → window_on p (reach_in p a) d v ≡ window_on p (reach_in p a) d w → ⊥
    apart_runs v w h k two e =
        let q : v ≡ w = sym (back v h) ∙ (ap (run_at d) e ∙ back w k) in
        both_ways (same_run v w) two (same_from v w (ap (λ (r : Run). r.job) q) (ap (λ (r : Run). r.at) q))

    takers : AreApart p (windows_of p a (classes a first n)) → (v w : Run) → Holds p (reach_in p a) (1440 * d + m) v → Holds p (reach_in p a) (1440 * d + m) w → same_run v w ≡ false → rivals p v.job w.job ≡ true → (is_cron p v.job ≡ true) ⊎ (is_cron p w.job ≡ true) → (takes_lock p v.job ≡ true) × (takes_lock p w.job ≡ true)
    unfolding held
    takers apart v w h k two r c =
        ⊎_elim (λ (e : clash p v.job w.job ≡ false). no_clash p v.job w.job e r (⊎_elim (λ (i : is_cron p v.job ≡ true). or_left (is_cron p v.job) (is_cron p w.job) i) (λ (i : is_cron p w.job ≡ true). or_right (is_cron p v.job) (is_cron p w.job) i) c))
        (λ (e : clash p w.job v.job ≡ false). let t = no_clash p w.job v.job e (rivals_both p v.job w.job r) (⊎_elim (λ (i : is_cron p v.job ≡ true). or_right (is_cron p w.job) (is_cron p v.job) i) (λ (i : is_cron p w.job ≡ true). or_left (is_cron p w.job) (is_cron p v.job) i) c) in (t.1, t.0))
        (pair_has (λ v w. clash p v.job w.job ≡ false) held (window_on p (reach_in p a) d v) (window_on p (reach_in p a) d w) (apart m lt) (put v h) (put w k) (apart_runs v w h k two))

    two_windows : (v w : Run) → Holds p (reach_in p a) (1440 * d + m) v → Holds p (reach_in p a) (1440 * d + m) w → same_run v w ≡ false → same_window (window_on p (reach_in p a) d v) (window_on p (reach_in p a) d w) ≡ false
    two_windows v w h k two = false_from_ne_true (same_window (window_on p (reach_in p a) d v) (window_on p (reach_in p a) d w)) (λ e.
        let x = and_parts (v.job == w.job) (((d - v.at / 1440) == (d - w.at / 1440)) && ((v.at % 1440) == (w.at % 1440))) e in
        let y = and_parts ((d - v.at / 1440) == (d - w.at / 1440)) ((v.at % 1440) == (w.at % 1440)) x.1 in
        let i : d - v.at / 1440 ≡ d - w.at / 1440 = eqb-true (d - v.at / 1440) (d - w.at / 1440) y.0 in
        let j : v.at % 1440 ≡ w.at % 1440 = eqb-true (v.at % 1440) (w.at % 1440) y.1 in
        both_ways (same_run v w) two (same_from v w (eqb-true v.job w.job x.0) (omega (arith, i, j, h.begun, k.begun, lt))))

    calm_on : AreApart p (windows_of p a (classes a first n)) → AreWithin p n (windows_of p a (classes a first n)) → AreFree p (windows_of p a (classes a first n)) → IsCalm p (reach_in p a) (1440 * d + m)
    unfolding held
    calm_on apart within free = record {
      exclusive = λ v w h k two c e r. takers apart v w h k two r (inl c);
      beside = λ v w h k c e.
          let two : same_run v w ≡ false = false_from_ne_true (same_run v w) (λ s. both_ways (is_cron p w.job) e (sym (ap (is_cron p) (same_parts v w s).0) ∙ c)) in
          let no : rivals p v.job w.job ≡ true → ⊥ = λ (r : rivals p v.job w.job ≡ true). both_ways (takes_lock p w.job) (plan.anacron_plain w.job e) (takers apart v w h k two r (inl c)).1 in
          (false_from_ne_true (rivals p v.job w.job) no, false_from_ne_true (rivals p w.job v.job) (λ r. no (rivals_both p w.job v.job r)));
      load = λ ws two all.
          let listed = all_map (Holds p (reach_in p a) (1440 * d + m)) (λ w. list_any (same_run w) (map (run_at d) held) ≡ true) ws
          (λ w h. any_has (same_run w) (map (run_at d) held) w (subst (Has (map (run_at d) held)) (back w h) (has_map (run_at d) held (window_on p (reach_in p a) d w) (put w h))) (same_from w w refl refl)) all in
          omega (arith, load_within p ws (map (run_at d) held) two listed, load_jobs p (run_at d) (run_in n) held (λ w. refl), within m lt);
      skip = λ v w now skips h k two.
          let each = all_has (λ v. AllByRecursion (λ w. blocks p m v w ≡ false) held) held (window_on p (reach_in p a) d v) (free m lt) (put v h) in
          let one = all_has (λ w. blocks p m (window_on p (reach_in p a) d v) w ≡ false) held (window_on p (reach_in p a) d w) each (put w k) in
          let today : (d - v.at / 1440) ≡ 0 = omega (arith, now, lt) in
          let minute : v.at % 1440 ≡ m = omega (arith, now, lt) in
          free_step (is_skip (p.mode v.job)) (((d - v.at / 1440) == 0) && ((v.at % 1440) == m)) (same_window (window_on p (reach_in p a) d v) (window_on p (reach_in p a) d w)) (takes_lock p w.job && same_group p v.job w.job) one
          (ap is_skip skips) (and_from ((d - v.at / 1440) == 0) ((v.at % 1440) == m) (eq-eqb (d - v.at / 1440) 0 today) (eq-eqb (v.at % 1440) m minute)) (two_windows v w h k two);
    }

  pub calm : (t : ℕ) → IsReached t → IsCalm p (reach_in p a) t
  calm t r =
      let d : ℕ = t / 1440 in
      let m : ℕ = t % 1440 in
      let first : ℕ = d + 1 - n in
      let lt : m < 1440 = omega arith in
      let is : d + 1 ≡ first + n = omega (arith, r.first, long.range.1) in
      let at : 1440 * d + m ≡ t = omega arith in
      let x = on_days p on a n ok (λ s. AreApart p (windows_of p a s.of)) ok.apart first in
      let y = on_days p on a n ok (λ s. AreWithin p n (windows_of p a s.of)) ok.within first in
      let z = on_days p on a n ok (λ s. AreFree p (windows_of p a s.of)) ok.free first in
      subst (IsCalm p (reach_in p a)) at (calm_on d m first lt is
      (subst (λ (s : List ℕ). AreApart p (windows_of p a s)) x.1 x.2)
      (subst (λ (s : List ℕ). AreWithin p n (windows_of p a s)) y.1 y.2)
      (subst (λ (s : List ℕ). AreFree p (windows_of p a s)) z.1 z.2))
