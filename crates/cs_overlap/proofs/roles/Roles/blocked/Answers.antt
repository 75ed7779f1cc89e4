use Rattle.std.specs.Prelude.{◌≡◌}
use Rattle.cs_theorem.specs.Faults.{blocked_in}
use Rattle.cs_overlap.specs.Roles.{IsOf}
use Rattle.cs_history.specs.Plan.{Plan}
use Rattle.std.proofs.Common.{List, ap, ◌∙◌}
use Rattle.cs_overlap.specs.declared.role.Role.{Role}
use Rattle.cs_overlap.specs.Found.{blocked_by}
use Rattle.std.proofs.lemmas.Result.{IfOk-weaker}
use Rattle.cs_overlap.proofs.RolesSay.{blocked_rules}
use Rattle.cs_overlap.proofs.roles.Roles.blocked.Goals as goal

pub returns : goal.returns
returns c =
    IfOk-weaker c.blocked.result (λ found. found ≡ blocked_by c.jobs.result.now c.args.windows.now)
    (λ found. (p : Plan) → IsOf p c.args.self.now → found ≡ blocked_in p c.args.windows.now)
    (λ found e p is. e ∙ (ap (λ (roles : List Role). blocked_by roles c.args.windows.now) c.jobs.ensures.value ∙ blocked_rules p c.args.self.now c.args.windows.now is)) c.blocked.ensures
