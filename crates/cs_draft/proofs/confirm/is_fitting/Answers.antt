use Rattle.std.proofs.Common.{◌≡◌, Ok, subst}
use Rattle.cs_crontab.specs.Crontab.{Table as Crontab}
use Rattle.cs_anacrontab.specs.Anacrontab.{Table as Anacrontab}
use Rattle.cs_decl.specs.Join.{joined}
use Rattle.cs_draft.proofs.Joins.{plan_fits}
use Rattle.cs_draft.proofs.confirm.is_fitting.Goals as goal

pub returns-in-Ok : goal.returns-in-Ok
returns-in-Ok c = λ yes.
    let d = c.args.declarations in
    let plan = c.in-Ok.field-0 in
    let copied : joined c.in_ok-copy.field-0 c.in_ok-copy-2.field-0 d ≡ Ok plan = c.in-Ok.ensures in
    let of_jobs = subst (λ (jobs : Anacrontab). joined c.in_ok-copy.field-0 jobs d ≡ Ok plan) c.in_ok-copy-2.ensures copied in
    plan_fits c.args.table.now c.args.jobs.now d plan (subst (λ (table : Crontab). joined table c.args.jobs.now d ≡ Ok plan) c.in_ok-copy.ensures of_jobs)
