use Rattle.std.specs.Prelude.{ℕ, IsTrue}
use Rattle.cs_theorem.specs.Accepted.{AreApart, AreWithin, AreFree}
use Rattle.cs_windows.specs.declared.window.Window.{Window}
use Rattle.cs_overlap.specs.Roles.{IsOf, PlanRoles}
use Rattle.cs_overlap.specs.Sums.{AreApartBy, AreFreeBy, AreWithinBy}
use Rattle.cs_history.specs.Plan.{Plan}
use Rattle.std.proofs.Common.{List, subst}
use Rattle.cs_overlap.specs.declared.role.Role.{Role}
use Rattle.std.proofs.lemmas.Result.{IfOk-weaker}
use Rattle.cs_overlap.proofs.RolesSay.{apart_sums, free_sums, within_sums}
use Rattle.cs_overlap.proofs.roles.Roles.quiet.Goals as goal

pub returns : goal.returns
returns c =
    let r : PlanRoles = c.args.self.now in
    let jobs = c.jobs in
    let groups = c.groups in
    let capacity = c.capacity in
    let ws : List Window = c.args.windows.now in
    record {
      apart = IfOk-weaker c.quiet_by_sums.result
          (λ quiet. IsTrue quiet.is_apart → AreApartBy 1440 jobs.result.now ws)
          (λ quiet. IsTrue quiet.is_apart → (p : Plan) → IsOf p r → AreApart p ws)
          (λ quiet e true p is. apart_sums p r ws is (subst (λ (roles : List Role). AreApartBy 1440 roles ws) jobs.ensures.value (e true))) c.quiet_by_sums.ensures.apart;
      within = IfOk-weaker c.quiet_by_sums.result
          (λ quiet. IsTrue quiet.is_within → AreWithinBy 1440 jobs.result.now groups.result capacity.result ws)
          (λ quiet. IsTrue quiet.is_within → (p : Plan) (n : ℕ) → IsOf p r → AreWithin p n ws)
          (λ quiet e true p n is. within_sums p n r ws is (subst (λ (roles : List Role). AreWithinBy 1440 roles r.groups r.capacity ws) jobs.ensures.value (subst (λ (k : ℕ). AreWithinBy 1440 jobs.result.now k r.capacity ws) groups.ensures.value (subst (λ (k : ℕ). AreWithinBy 1440 jobs.result.now groups.result k ws) capacity.ensures (e true))))) c.quiet_by_sums.ensures.within;
      free = IfOk-weaker c.quiet_by_sums.result
          (λ quiet. IsTrue quiet.is_free → AreFreeBy 1440 jobs.result.now ws)
          (λ quiet. IsTrue quiet.is_free → (p : Plan) → IsOf p r → AreFree p ws)
          (λ quiet e true p is. free_sums p r ws is (subst (λ (roles : List Role). AreFreeBy 1440 roles ws) jobs.ensures.value (e true))) c.quiet_by_sums.ensures.free;
    }
