use Rattle.std.proofs.Common.{ℕ, zero, suc, ◌+◌, ◌<◌, ◌≡◌, Bool, true, false, not, ◌&&◌, ◌||◌, List, find, Option, None, refl, sym, ap, ◌∙◌, arith, ◌==◌, le-leb, eqb-true}
use Rattle.std.specs.Prelude.{option_map}
use Rattle.std.specs.List.{AllByRecursion, range_with_len}
use Rattle.std.proofs.lemmas.Bool.{and_parts, both_ways, false_from_ne_true}
use Rattle.std.proofs.Math.Bool.{and-false}
use Rattle.cs_history.specs.Lists.{below}
use Rattle.cs_history.specs.Plan.{takes, is_group, is_skip}
use Rattle.cs_history.proofs.Lists.{all_any, pairs_map}
use Rattle.cs_windows.specs.declared.window.Window.{Window}
use Rattle.cs_theorem.specs.Windows.{same_window, holders}
use Rattle.cs_theorem.specs.Faults.{first_of, first_pair, unless}
use Rattle.cs_theorem.proofs.Firsts.{first_of-more, first_of-none}
use Rattle.cs_theorem.proofs.Says.{says_find, says_first, says_map, says_pair}
use Rattle.cs_overlap.specs.declared.role.Role.{Role}
use Rattle.cs_overlap.specs.Roles.{role_at, share_group, roles_clash, load_by}
use Rattle.cs_overlap.specs.Found.{blocked_at, blocked_of, clash_in, collision_at, collision_of, overload_at, role_blocks}
use Rattle.cs_overlap.specs.Sums.{AreApartBy, AreFreeBy, AreWithinBy, is_of}
use Rattle.cs_overlap.proofs.SumLemmas.{in_group, pairs_of}

none_until : {B : Type 0} (f : ℕ → Option B) (n : ℕ) → ((m : ℕ) → m < n → f m ≡ None) → first_of f (range_with_len 0 n) ≡ None
none_until f zero h = refl
none_until f (suc n) h =
    let e : suc n ≡ n + 1 = omega arith in
    ap (λ (k : ℕ). first_of f (range_with_len 0 k)) e ∙ first_of-more f n (none_until f n (λ m lt. h m (omega (arith, lt)))) (h n (omega arith))

module _ (roles : List Role) where
  -- ---- no fault before a minute

  pub collision_none : (end groups : ℕ) (ws : List Window) → AreApartBy end roles ws → first_of (collision_at roles groups ws) (range_with_len 0 end) ≡ None
  collision_none end groups ws apart = none_until (collision_at roles groups ws) end (λ m lt. first_of-none (collision_of roles m (holders m ws)) (below groups) (λ g.
      ap (λ (o : Option (Window × Window)). option_map (λ (q : Window × Window). (m, q.0, q.1)) o) ((says_pair (clash_in roles g) (holders m ws)).1
      (pairs_map (λ w. w ≡ w) (λ v w. roles_clash (role_at roles v.job) (role_at roles w.job) ≡ false) (λ v w. clash_in roles g v w ≡ false) (holders m ws)
      (λ v w a b e. ap (λ (c : Bool). is_group g (role_at roles v.job).group && c) e ∙ and-false (is_group g (role_at roles v.job).group)) (all_any (λ w. w ≡ w) (holders m ws) (λ w. refl)) (apart m lt)))))

  pub overload_none : (end groups capacity : ℕ) (ws : List Window) → AreWithinBy end roles groups capacity ws → first_of (overload_at roles groups capacity ws) (range_with_len 0 end) ≡ None
  overload_none end groups capacity ws within = none_until (overload_at roles groups capacity ws) end (λ m lt.
      let weight = load_by roles groups (holders m ws) in
      ap (λ (b : Bool). unless b (m, weight)) (le-leb weight capacity (within m lt)))

  pub blocked_none : (end : ℕ) (ws : List Window) → AreFreeBy end roles ws → first_of (blocked_at roles ws) (range_with_len 0 end) ≡ None
  blocked_none end ws free = none_until (blocked_at roles ws) end (λ m lt.
      let held = holders m ws in
      (says_first (blocked_of roles m held) (λ v. AllByRecursion (λ w. role_blocks roles m v w ≡ false) held)
      (λ v. says_map (λ (w : Window). (m, v, w)) (find (role_blocks roles m v) held) (AllByRecursion (λ w. role_blocks roles m v w ≡ false) held) (says_find (role_blocks roles m v) held)) held).1 (free m lt))

  -- ---- no pair to look at

  pub rival_none : (g : ℕ) (v : Window) (ws : List Window) → is_of roles g v ≡ false → find (clash_in roles g v) ws ≡ None
  rival_none g v ws e = (says_find (clash_in roles g v) ws).1 (all_any (λ w. clash_in roles g v w ≡ false) ws (λ w. ap (λ (b : Bool). b && roles_clash (role_at roles v.job) (role_at roles w.job)) e))

  pub rival_free : (g : ℕ) (v : Window) (ws : List Window) → (role_at roles v.job).is_exclusive ≡ false → find (clash_in roles g v) ws ≡ None
  rival_free g v ws e = (says_find (clash_in roles g v) ws).1 (all_any (λ w. clash_in roles g v w ≡ false) ws (λ w.
      let one = role_at roles v.job in
      let other = role_at roles w.job in
      ap (λ (b : Bool). is_of roles g v && ((b && share_group one other) && ((one.is_cron || other.is_cron) && not (takes one.mode && takes other.mode)))) e ∙ and-false (is_of roles g v)))

  pub takers_none : (g : ℕ) (ws : List Window) → AllByRecursion (λ w. is_of roles g w ≡ true → takes (role_at roles w.job).mode ≡ true) ws → first_pair (clash_in roles g) ws ≡ None
  takers_none g ws all = (says_pair (clash_in roles g) ws).1 (pairs_of (λ w. is_of roles g w ≡ true → takes (role_at roles w.job).mode ≡ true) (λ v w. clash_in roles g v w ≡ false) ws (λ v w p q.
      false_from_ne_true (clash_in roles g v w) (λ e.
      let one = role_at roles v.job in
      let other = role_at roles w.job in
      let x = and_parts (is_of roles g v) (roles_clash one other) e in
      let y = and_parts (one.is_exclusive && share_group one other) ((one.is_cron || other.is_cron) && not (takes one.mode && takes other.mode)) x.1 in
      let z = and_parts (one.is_cron || other.is_cron) (not (takes one.mode && takes other.mode)) y.1 in
      let h = in_group roles one other one.group refl (and_parts one.is_exclusive (share_group one other) y.0).1 in
      let same : g ≡ h.0 = eqb-true g h.0 (sym (ap (λ (o : Option ℕ). is_group g o) h.1) ∙ x.0) in
      let too : is_of roles g w ≡ true = ap (λ (k : ℕ). is_group k other.group) same ∙ h.2 in
      let both : (a b : Bool) → a ≡ true → b ≡ true → not (a && b) ≡ true → ⊥ = λ a b i j k. both_ways (not (a && b)) (ap (λ (c : Bool). not (c && b)) i ∙ ap (λ (c : Bool). not c) j) k in
      both (takes one.mode) (takes other.mode) (p x.0) (q too) z.1)) all)

  pub blocker_none : (m : ℕ) (v : Window) (ws : List Window) → (is_skip (role_at roles v.job).mode && ((v.day_back == 0) && (v.from == m))) ≡ false → find (role_blocks roles m v) ws ≡ None
  blocker_none m v ws e = (says_find (role_blocks roles m v) ws).1 (all_any (λ w. role_blocks roles m v w ≡ false) ws (λ w.
      ap (λ (b : Bool). b && (not (same_window v w) && (takes (role_at roles w.job).mode && share_group (role_at roles v.job) (role_at roles w.job)))) e))
