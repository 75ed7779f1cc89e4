use Rattle.std.specs.Prelude.{ℕ, ◌≡◌}
use Rattle.cs_theorem.specs.Faults.{overload_in}
use Rattle.cs_overlap.specs.Roles.{IsOf}
use Rattle.cs_history.specs.Plan.{Plan}
use Rattle.std.proofs.Common.{List, ap, ◌∙◌}
use Rattle.cs_overlap.specs.declared.role.Role.{Role}
use Rattle.cs_overlap.specs.Found.{overload_by}
use Rattle.std.proofs.lemmas.Result.{IfOk-weaker}
use Rattle.cs_overlap.proofs.RolesSay.{overload_rules}
use Rattle.cs_overlap.proofs.roles.Roles.overload.Goals as goal

pub returns : goal.returns
returns c =
    IfOk-weaker c.overload.result (λ found. found ≡ overload_by c.jobs.result.now c.groups.result c.capacity.result c.args.windows.now)
    (λ found. (p : Plan) (n : ℕ) → IsOf p c.args.self.now → found ≡ overload_in p n c.args.windows.now)
    (λ found e p n is. e ∙ (ap (λ (k : ℕ). overload_by c.jobs.result.now k c.capacity.result c.args.windows.now) c.groups.ensures.value ∙ ap (λ (k : ℕ). overload_by c.jobs.result.now c.args.self.now.groups k c.args.windows.now) c.capacity.ensures ∙ ap (λ (roles : List Role). overload_by roles c.args.self.now.groups c.args.self.now.capacity c.args.windows.now) c.jobs.ensures.value ∙ overload_rules p n c.args.self.now c.args.windows.now is)) c.overload.ensures
