use Rattle.std.proofs.Common.{ℕ, ◌≡◌, Bool, true, false, not, ◌&&◌, ◌||◌, List, [], ◌∷◌, ◌++◌, Option, None, Some, refl, sym, ap, ◌∙◌, arith}
use Rattle.cs_history.specs.Plan.{Plan, is_cron, takes_lock, takes, same_group, in_group_of, belongs, is_group, exclusive_group, is_skip}
use Rattle.cs_history.proofs.Lists.{all_map, all_any, pairs_map}
use Rattle.cs_windows.specs.declared.window.Window.{Window}
use Rattle.cs_theorem.specs.Accepted.{AreApart, AreFree, AreWithin, clash, blocks, run_in}
use Rattle.cs_overlap.specs.declared.role.Role.{Role}
use Rattle.cs_overlap.specs.Roles.{role_at, role_of, AreRoles, share_group, roles_clash, load_by}
use Rattle.cs_overlap.specs.Sums.{AreApartBy, AreFreeBy, AreWithinBy}
use Rattle.std.specs.List.{AllByRecursion}
use Rattle.cs_overlap.specs.Found.{collision_by, overload_by, role_blocks, blocked_by}
use Rattle.cs_overlap.proofs.Weights.{load_is, load_jobs_same}
use Rattle.cs_theorem.specs.Windows.{holders, same_window}
use Rattle.cs_theorem.specs.Faults.{first_of, first_pair, unless, collision_in, overload_in, blocked_in}
use Rattle.cs_windows.specs.Windows.{day_minutes}
use Rattle.cs_history.specs.Lists.{below}
use Rattle.std.specs.Prelude.{nat_le, find, option_map, ◌==◌}

share_step : (p : Plan) (o : Option ℕ) (j : ℕ) → (elim o [ None ↦ false | Some g ↦ is_group g (p.group j) ]) ≡ in_group_of p o j
share_step p None j = refl
share_step p (Some g) j = refl

share_is : (p : Plan) (i j : ℕ) → share_group (role_of p i) (role_of p j) ≡ same_group p i j
share_is p i j = share_step p (p.group i) j

clash_is : (p : Plan) (i j : ℕ) → roles_clash (role_of p i) (role_of p j) ≡ clash p i j
clash_is p i j = ap (λ (b : Bool). (exclusive_group p (p.group i) && b) && ((is_cron p i || is_cron p j) && not (takes_lock p i && takes_lock p j))) (share_is p i j)

clash_by : (p : Plan) (roles : List Role) (v w : Window) → role_at roles v.job ≡ role_of p v.job → role_at roles w.job ≡ role_of p w.job → roles_clash (role_at roles v.job) (role_at roles w.job) ≡ clash p v.job w.job
clash_by p roles v w e f = ap (λ (r : Role). roles_clash r (role_at roles w.job)) e ∙ (ap (λ (r : Role). roles_clash (role_of p v.job) r) f ∙ clash_is p v.job w.job)

module _ (p : Plan) (roles : List Role) (are : AreRoles p roles) where
  -- ---- the finders

  pub collision_is : (ws : List Window) → collision_by roles p.groups ws ≡ collision_in p ws
  collision_is ws = ap (λ (t : ℕ → Window → Window → Bool). first_of (λ m. first_of (λ g. option_map (λ (q : Window × Window). (m, q.0, q.1)) (first_pair (t g) (holders m ws))) (below p.groups)) day_minutes)
      (λ i g v w. ((ap (λ (r : Role). is_group g r.group && roles_clash (role_at roles v.job) (role_at roles w.job)) (are v.job))
      ∙ (ap (λ (r : Role). belongs p g v.job && roles_clash r (role_at roles w.job)) (are v.job) ∙ (ap (λ (r : Role). belongs p g v.job && roles_clash (role_of p v.job) r) (are w.job) ∙ ap (λ (b : Bool). belongs p g v.job && b) (clash_is p v.job w.job)))) i)

  pub overload_is : (n : ℕ) (ws : List Window) → overload_by roles p.groups p.capacity ws ≡ overload_in p n ws
  overload_is n ws = ap (λ (f : ℕ → ℕ). first_of (λ m. unless (nat_le (f m) p.capacity) (m, f m)) day_minutes)
      (λ i m. (load_is p roles (holders m ws) are ∙ load_jobs_same p (run_in 2) (run_in n) (holders m ws) (λ w. refl)) i)

  blocks_is : (m : ℕ) (v w : Window) → role_blocks roles m v w ≡ blocks p m v w
  blocks_is m v w =
      ap (λ (r : Role). (is_skip r.mode && ((v.day_back == 0) && (v.from == m))) && (not (same_window v w) && (takes (role_at roles w.job).mode && share_group r (role_at roles w.job)))) (are v.job)
      ∙ (ap (λ (r : Role). (is_skip (p.mode v.job) && ((v.day_back == 0) && (v.from == m))) && (not (same_window v w) && (takes r.mode && share_group (role_of p v.job) r))) (are w.job)
      ∙ ap (λ (b : Bool). (is_skip (p.mode v.job) && ((v.day_back == 0) && (v.from == m))) && (not (same_window v w) && (takes_lock p w.job && b))) (share_is p v.job w.job))

  pub blocked_is : (ws : List Window) → blocked_by roles ws ≡ blocked_in p ws
  blocked_is ws = ap (λ (t : ℕ → Window → Window → Bool). first_of (λ m. first_of (λ v. option_map (λ (w : Window). (m, v, w)) (find (t m v) (holders m ws))) (holders m ws)) day_minutes) (λ i m v w. blocks_is m v w i)

  -- ---- the sums

  pub apart_from_sums : (ws : List Window) → AreApartBy 1440 roles ws → AreApart p ws
  apart_from_sums ws by m lt = pairs_map (λ w. w ≡ w) (λ v w. roles_clash (role_at roles v.job) (role_at roles w.job) ≡ false) (λ v w. clash p v.job w.job ≡ false) (holders m ws) (λ v w a b e. sym (clash_by p roles v w (are v.job) (are w.job)) ∙ e) (all_any (λ w. w ≡ w) (holders m ws) (λ w. refl)) (by m lt)

  pub within_from_sums : (n : ℕ) (ws : List Window) → AreWithinBy 1440 roles p.groups p.capacity ws → AreWithin p n ws
  within_from_sums n ws by m lt = omega (arith, load_is p roles (holders m ws) are, load_jobs_same p (run_in n) (run_in 2) (holders m ws) (λ w. refl), by m lt)

  pub free_from_sums : (ws : List Window) → AreFreeBy 1440 roles ws → AreFree p ws
  free_from_sums ws by m lt = all_map (λ v. AllByRecursion (λ w. role_blocks roles m v w ≡ false) (holders m ws)) (λ v. AllByRecursion (λ w. blocks p m v w ≡ false) (holders m ws)) (holders m ws)
      (λ v all. all_map (λ w. role_blocks roles m v w ≡ false) (λ w. blocks p m v w ≡ false) (holders m ws) (λ w e. sym (blocks_is m v w) ∙ e) all) (by m lt)
