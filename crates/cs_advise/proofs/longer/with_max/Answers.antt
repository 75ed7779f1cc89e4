use Rattle.std.proofs.Common.{rules, ◌≡◌, set, sym, subst}
use Rattle.cs_advise.specs.Changed.{job_with_max, with_max}
use Rattle.cs_plan.specs.Plan.{IsWhole, job_at}
use Rattle.cs_advise.proofs.Changes.{with_max_whole}
use Rattle.cs_advise.proofs.longer.with_max.Goals as goal

pub with_jobs-requires : goal.with_jobs-requires
with_jobs-requires c =
    let whole : IsWhole (with_max c.args.plan.now c.args.number c.args.max) = with_max_whole c.args.plan.now c.jobs.ensures.whole c.args.number c.args.max c.requires.in_range in
    let same : c.in_ok-jobs.jobs ≡ set c.args.plan.now.jobs c.args.number (job_with_max (job_at c.args.plan.now c.args.number) c.args.max) = search rules in
    subst (λ jobs. IsWhole (record c.args.plan.now { jobs = jobs })) (sym same) whole
