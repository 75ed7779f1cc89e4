use Rattle.std.specs.Prelude.{ℕ, ◌≡◌}
use Rattle.cs_theorem.specs.Faults.{collision_in}
use Rattle.cs_overlap.specs.Roles.{IsOf}
use Rattle.cs_history.specs.Plan.{Plan}
use Rattle.std.proofs.Common.{List, ap, ◌∙◌}
use Rattle.cs_overlap.specs.declared.role.Role.{Role}
use Rattle.cs_overlap.specs.Found.{collision_by}
use Rattle.std.proofs.lemmas.Result.{IfOk-weaker}
use Rattle.cs_overlap.proofs.RolesSay.{collision_rules}
use Rattle.cs_overlap.proofs.roles.Roles.collision.Goals as goal

pub returns : goal.returns
returns c =
    IfOk-weaker c.collision.result (λ found. found ≡ collision_by c.jobs.result.now c.groups.result c.args.windows.now)
    (λ found. (p : Plan) → IsOf p c.args.self.now → found ≡ collision_in p c.args.windows.now)
    (λ found e p is. e ∙ (ap (λ (k : ℕ). collision_by c.jobs.result.now k c.args.windows.now) c.groups.ensures.value ∙ ap (λ (roles : List Role). collision_by roles c.args.self.now.groups c.args.windows.now) c.jobs.ensures.value ∙ collision_rules p c.args.self.now c.args.windows.now is)) c.collision.ensures
