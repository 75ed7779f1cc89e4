use Rattle.std.proofs.Common.{ℕ, ◌≡◌, List, sym, ap, ◌∙◌, subst}
use Rattle.cs_history.specs.Plan.{Plan}
use Rattle.cs_windows.specs.declared.window.Window.{Window}
use Rattle.cs_theorem.specs.Accepted.{AreApart, AreWithin, AreFree}
use Rattle.cs_theorem.specs.Faults.{collision_in, overload_in, blocked_in}
use Rattle.cs_overlap.specs.Roles.{PlanRoles, IsOf}
use Rattle.cs_overlap.specs.Sums.{AreApartBy, AreFreeBy, AreWithinBy}
use Rattle.cs_overlap.specs.Found.{collision_by, overload_by, blocked_by}
use Rattle.cs_overlap.proofs.RoleLemmas.{apart_from_sums, free_from_sums, within_from_sums, collision_is, overload_is, blocked_is}

pub apart_sums : (p : Plan) (r : PlanRoles) (ws : List Window) → IsOf p r → AreApartBy 1440 r.jobs ws → AreApart p ws
apart_sums p r ws is by = apart_from_sums p r.jobs is.jobs ws by

pub free_sums : (p : Plan) (r : PlanRoles) (ws : List Window) → IsOf p r → AreFreeBy 1440 r.jobs ws → AreFree p ws
free_sums p r ws is by = free_from_sums p r.jobs is.jobs ws by

pub within_sums : (p : Plan) (n : ℕ) (r : PlanRoles) (ws : List Window) → IsOf p r → AreWithinBy 1440 r.jobs r.groups r.capacity ws → AreWithin p n ws
within_sums p n r ws is by = within_from_sums p r.jobs is.jobs n ws (subst (λ (k : ℕ). AreWithinBy 1440 r.jobs k p.capacity ws) (sym is.groups) (subst (λ (k : ℕ). AreWithinBy 1440 r.jobs r.groups k ws) (sym is.capacity) by))

pub collision_rules : (p : Plan) (r : PlanRoles) (ws : List Window) → IsOf p r → collision_by r.jobs r.groups ws ≡ collision_in p ws
collision_rules p r ws is = ap (λ (k : ℕ). collision_by r.jobs k ws) (sym is.groups) ∙ collision_is p r.jobs is.jobs ws

pub overload_rules : (p : Plan) (n : ℕ) (r : PlanRoles) (ws : List Window) → IsOf p r → overload_by r.jobs r.groups r.capacity ws ≡ overload_in p n ws
overload_rules p n r ws is = ap (λ (k : ℕ). overload_by r.jobs k r.capacity ws) (sym is.groups) ∙ (ap (λ (k : ℕ). overload_by r.jobs p.groups k ws) (sym is.capacity) ∙ overload_is p r.jobs is.jobs n ws)

pub blocked_rules : (p : Plan) (r : PlanRoles) (ws : List Window) → IsOf p r → blocked_by r.jobs ws ≡ blocked_in p ws
blocked_rules p r ws is = blocked_is p r.jobs is.jobs ws
