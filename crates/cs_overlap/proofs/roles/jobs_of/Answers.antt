use Rattle.std.proofs.Common.{arith, ap, sym, ◌∙◌, length}
use Rattle.cs_overlap.specs.declared.role.Role.{Role}
use Rattle.cs_overlap.proofs.PlanRoles.{are_roles}
use Rattle.cs_overlap.proofs.roles.jobs_of.Goals as goal

pub returns : goal.returns
returns c =
    let same = ap length c.jobs-job-items.ensures.value in
    let are = are_roles c.args.plan.now c.loop-number.jobs.items c.jobs-job-items.ensures.resolved.crons (omega (arith, c.loop-number.invariant.0, same, c.loop-number-test)) (λ j l. c.loop-number.invariant.1 j (omega (arith, l, same, c.loop-number-test))) in
    record {
      roles = are;
      grouped = λ j g e. c.jobs-job-items.ensures.resolved.groups j g (sym (ap (λ (r : Role). r.group) (are j)) ∙ e);
    }
