use Rattle.std.proofs.Common.{ℕ, zero, suc, ◌+◌, ◌<◌, ◌≡◌, not, ◌&&◌, List, [], ◌∷◌, map, if◌then◌else◌, refl, sym, ap, ◌∙◌, arith}
use Rattle.cs_history.specs.declared.run.Run.{Run}
use Rattle.cs_history.specs.Lists.{total, greatest, below}
use Rattle.cs_history.specs.Plan.{Plan, is_cron, takes_lock, locks, shares, takes, shares_in, is_group}
use Rattle.cs_history.specs.Calm.{load, lock_load}
use Rattle.cs_history.proofs.Lists.{total_push}
use Rattle.cs_windows.specs.declared.window.Window.{Window}
use Rattle.cs_theorem.specs.Accepted.{run_in}
use Rattle.cs_theorem.proofs.Calm.{load_jobs}
use Rattle.cs_overlap.specs.declared.role.Role.{Role}
use Rattle.cs_overlap.specs.Roles.{AreRoles, free_weight, alone_weight, shared_weight, catch_weight, group_weight, load_by}

-- what windows weigh together; their minutes don't matter
abbrev pub weight_of : Plan → List Window → ℕ
weight_of p ws = load p (map (run_in 2) ws)

pub total_below : (f : ℕ → ℕ) (n : ℕ) → total f (below (n + 1)) ≡ total f (below n) + f n
total_below f n = let e : n + 1 ≡ suc n = omega arith in ap (λ (k : ℕ). total f (below k)) e ∙ total_push f (below n) n

pub total_same : (f h : ℕ → ℕ) (n : ℕ) → ((g : ℕ) → g < n → f g ≡ h g) → total f (below n) ≡ total h (below n)
total_same f h zero e = refl
total_same f h (suc n) e = omega (arith, total_push f (below n) n, total_push h (below n) n, total_same f h n (λ g lt. e g (omega (arith, lt))), e n (omega arith))

total_of : (f : Window → ℕ) (h : Run → ℕ) (p : Plan) (ws : List Window) → ((w : Window) → f w ≡ h (run_in 2 w)) → total f ws ≡ total h (map (run_in 2) ws)
total_of f h p [] e = refl
total_of f h p (w ∷ ws) e = omega (arith, e w, total_of f h p ws e)

greatest_of : (f : Window → ℕ) (h : Run → ℕ) (p : Plan) (ws : List Window) → ((w : Window) → f w ≡ h (run_in 2 w)) → greatest f ws ≡ greatest h (map (run_in 2) ws)
greatest_of f h p [] e = refl
greatest_of f h p (w ∷ ws) e = omega (arith, e w, greatest_of f h p ws e)

-- the roles weigh as the plan does
pub load_is : (p : Plan) (roles : List Role) (ws : List Window) → AreRoles p roles → load_by roles p.groups ws ≡ weight_of p ws
load_is p roles ws are =
    let x = total_of (free_weight roles) (λ w. if is_cron p w.job && not (takes_lock p w.job) then p.weight w.job else 0) p ws (λ w. ap (λ (r : Role). if r.is_cron && not (takes r.mode) then r.weight else 0) (are w.job)) in
    let z = greatest_of (catch_weight roles) (λ w. if not (is_cron p w.job) then p.weight w.job else 0) p ws (λ w. ap (λ (r : Role). if not r.is_cron then r.weight else 0) (are w.job)) in
    let y = total_same (group_weight roles ws) (lock_load p (map (run_in 2) ws)) p.groups (λ g lt.
    let u = greatest_of (alone_weight roles g) (λ w. if locks p g w.job && not (shares p w.job) then p.weight w.job else 0) p ws (λ w. ap (λ (r : Role). if (takes r.mode && is_group g r.group) && not (shares_in r.mode) then r.weight else 0) (are w.job)) in
    let v = total_of (shared_weight roles g) (λ w. if locks p g w.job && shares p w.job then p.weight w.job else 0) p ws (λ w. ap (λ (r : Role). if (takes r.mode && is_group g r.group) && shares_in r.mode then r.weight else 0) (are w.job)) in
    omega (arith, u, v)) in
    omega (arith, x, y, z)

pub load_jobs_same : (p : Plan) (f g : Window → Run) (ws : List Window) → ((w : Window) → (f w).job ≡ (g w).job) → load p (map f ws) ≡ load p (map g ws)
load_jobs_same p f g ws same = omega (arith, load_jobs p f g ws same, load_jobs p g f ws (λ w. sym (same w)))
