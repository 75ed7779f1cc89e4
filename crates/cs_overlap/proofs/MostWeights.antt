-- The load of windows is at most what each of them may weigh, added up.
use Rattle.std.proofs.Common.{ℕ, zero, suc, ◌+◌, ◌<◌, ◌≤◌, ◌≡◌, Bool, true, false, not, ◌&&◌, ◌||◌, List, [], ◌∷◌, Option, None, Some, if◌then◌else◌, refl, ap, ⊎_elim, arith}
use Rattle.std.proofs.lemmas.Bool.{cases_lt, cases_eq, ne_eqb}
use Rattle.cs_history.specs.Lists.{total, below}
use Rattle.cs_history.specs.Plan.{takes, shares_in, is_group}
use Rattle.cs_history.proofs.Lists.{all_any, total_push, total_le, total_sum, total_zero}
use Rattle.cs_windows.specs.declared.window.Window.{Window}
use Rattle.cs_overlap.specs.declared.role.Role.{Role}
use Rattle.cs_overlap.specs.declared.table.Amount.TheVariants.{OwnWeight}
use Rattle.cs_overlap.specs.Roles.{role_at, free_weight, alone_weight, shared_weight, group_weight}
use Rattle.cs_overlap.specs.Sums.{amount_in}

lone_sum : (f : ℕ → ℕ) (k c : ℕ) → ((j : ℕ) → (j ≡ k → ⊥) → f j ≡ 0) → f k ≤ c → (m : ℕ) → (total f (below m) ≤ c) × (m ≤ k → total f (below m) ≡ 0)
lone_sum f k c other at zero = (omega arith, λ _. refl)
lone_sum f k c other at (suc m) =
    let ih = lone_sum f k c other at m in
    let e = total_push f (below m) m in (
      ⊎_elim (λ (h : m < k). let z : f m ≡ 0 = other m (λ q. omega (arith, h, q)) in omega (arith, e, z, ih.0))
          (λ (h : k ≤ m). ⊎_elim (λ (q : m ≡ k). let z : f m ≡ f k = ap f q in omega (arith, e, z, at, ih.1 (omega (arith, q)))) (λ (q : m ≡ k → ⊥). omega (arith, e, other m q, ih.0)) (cases_eq m k)) (cases_lt m k),
      λ l. let z : f m ≡ 0 = other m (λ q. omega (arith, l, q)) in omega (arith, e, z, ih.1 (omega (arith, l))),
    )

in_groups : (t : Bool) (o : Option ℕ) (k n : ℕ) → total (λ g. if t && is_group g o then k else 0) (below n) ≤ (if t then k else 0)
in_groups false o k n = omega (arith, total_zero (λ (g : ℕ). 0) (below n) (all_any (λ g. 0 ≡ 0) (below n) (λ g. refl)))
in_groups true None k n = omega (arith, total_zero (λ (g : ℕ). 0) (below n) (all_any (λ g. 0 ≡ 0) (below n) (λ g. refl)))
in_groups true (Some h) k n = (lone_sum (λ g. if is_group g (Some h) then k else 0) h k (λ j ne. ap (λ (b : Bool). if b then k else 0) (ne_eqb j h ne)) (at_most (is_group h (Some h))) n).0
  where
    at_most : (b : Bool) → (if b then k else 0) ≤ k
    at_most true = omega arith
    at_most false = omega arith

either : (b s : Bool) (k : ℕ) → (if b && not s then k else 0) + (if b && s then k else 0) ≤ (if b then k else 0)
either true true k = omega arith
either true false k = omega arith
either false s k = omega arith

own_parts : (cron t : Bool) (k : ℕ) → (if cron && not t then k else 0) + (if t then k else 0) ≤ (if cron || t then k else 0)
own_parts true true k = omega arith
own_parts true false k = omega arith
own_parts false true k = omega arith
own_parts false false k = omega arith

module _ (roles : List Role) where
  of_window : (w : Window) (n : ℕ) → total (λ g. alone_weight roles g w + shared_weight roles g w) (below n) ≤ (if takes (role_at roles w.job).mode then (role_at roles w.job).weight else 0)
  of_window w n =
      let r = role_at roles w.job in
      omega (
        arith,
        in_groups (takes r.mode) r.group r.weight n,
        total_le (λ g. alone_weight roles g w + shared_weight roles g w) (λ g. if takes r.mode && is_group g r.group then r.weight else 0) (below n)
            (all_any (λ g. alone_weight roles g w + shared_weight roles g w ≤ (if takes r.mode && is_group g r.group then r.weight else 0)) (below n) (λ g. either (takes r.mode && is_group g r.group) (shares_in r.mode) r.weight)),
      )

  with_window : (w : Window) (ws : List Window) (n : ℕ) → total (group_weight roles (w ∷ ws)) (below n) ≤ total (λ g. alone_weight roles g w + shared_weight roles g w) (below n) + total (group_weight roles ws) (below n)
  with_window w ws n =
      let one = λ (g : ℕ). alone_weight roles g w + shared_weight roles g w in
      omega (
        arith,
        total_sum one (group_weight roles ws) (below n),
        total_le (group_weight roles (w ∷ ws)) (λ g. one g + group_weight roles ws g) (below n)
            (all_any (λ g. group_weight roles (w ∷ ws) g ≤ one g + group_weight roles ws g) (below n) (λ g. omega arith)),
      )

  pub own_most : (n : ℕ) (ws : List Window) → total (free_weight roles) ws + total (group_weight roles ws) (below n) ≤ total (amount_in roles OwnWeight) ws
  own_most n [] = omega (arith, total_zero (group_weight roles []) (below n) (all_any (λ g. group_weight roles [] g ≡ 0) (below n) (λ g. refl)))
  own_most n (w ∷ ws) =
      let r = role_at roles w.job in
      omega (arith, with_window w ws n, of_window w n, own_parts r.is_cron (takes r.mode) r.weight, own_most n ws)
