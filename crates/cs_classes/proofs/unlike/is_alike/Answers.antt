use Rattle.std.proofs.Common.{List, ◌∙◌, get_or, length, sym, ap, arith, below_more}
use Rattle.cs_classes.specs.Said.{said}
use Rattle.cs_crontab.specs.Crontab.{Table}
use Rattle.cs_daytree.specs.Tree.{Tree, class_in}
use Rattle.cs_plan.specs.Plan.{crons}
use Rattle.cs_classes.specs.declared.likeness.Likeness.{Likeness}
use Rattle.cs_classes.proofs.Alike.{job_alike, row_says, below_true, below_false}
use Rattle.cs_classes.proofs.unlike.is_alike.Goals as goal

pub returns-then-not-is_job_alike : goal.returns-then-not-is_job_alike
returns-then-not-is_job_alike c =
    let d = c.args.plan.now in
    let a = said c.args.claim.now in
    let lines = c.lines-line-items.ensures.value ∙ ap (λ (t : Table). t.lines) c.crontab.ensures.value in
    let long = ap length lines in
    let class = c.class_of-number.ensures.value ∙ ap (λ (tree : Tree). class_in tree c.args.kind) c.kinds.ensures.value in
    let own = c.as_slice-row.ensures ∙ (c.index-rows-number.is ∙ ap (λ (r : List Likeness). get_or c.args.rows.now c.class_of-number.result r) (sym c.as_slice-row.ensures)) in
    let one = row_says d a c.args.kind c.loop-job.job c.class_of-number.result c.args.rows.now c.as_slice-row.result.now c.line-item.result c.lines-line-items.result.now c.zone-zone.result.now c.index-classes-number.result c.classes.result.now c.is_job_alike.result c.requires own class (omega (arith, class, c.kinds.ensures.there c.args.kind)) lines c.loop-job-test.true c.line-item.is c.zone-zone.ensures c.classes.ensures c.index-classes-number.is c.is_job_alike.ensures in
    sym (below_false (job_alike d a c.args.kind) (crons d) c.loop-job.job (omega (arith, long, c.loop-job-test.true)) (sym one ∙ c.if-not-is_job_alike.true))

pub loop-job-preserved : goal.loop-job-preserved
loop-job-preserved c =
    let d = c.args.plan.now in
    let a = said c.args.claim.now in
    let lines = c.lines-line-items.ensures.value ∙ ap (λ (t : Table). t.lines) c.crontab.ensures.value in
    let class = c.class_of-number.ensures.value ∙ ap (λ (tree : Tree). class_in tree c.args.kind) c.kinds.ensures.value in
    let own = c.as_slice-row.ensures ∙ (c.index-rows-number.is ∙ ap (λ (r : List Likeness). get_or c.args.rows.now c.class_of-number.result r) (sym c.as_slice-row.ensures)) in
    let one = row_says d a c.args.kind c.loop-job.job c.class_of-number.result c.args.rows.now c.as_slice-row.result.now c.line-item.result c.lines-line-items.result.now c.zone-zone.result.now c.index-classes-number.result c.classes.result.now c.is_job_alike.result c.requires own class (omega (arith, class, c.kinds.ensures.there c.args.kind)) lines c.loop-job-test.true c.line-item.is c.zone-zone.ensures c.classes.ensures c.index-classes-number.is c.is_job_alike.ensures in
    below_more _ _ c.loop-job.invariant (sym one ∙ c.if-not-is_job_alike.false)

pub returns : goal.returns
returns c =
    let d = c.args.plan.now in
    let lines = c.lines-line-items.ensures.value ∙ ap (λ (t : Table). t.lines) c.crontab.ensures.value in
    let long = ap length lines in
    sym (below_true (job_alike d (said c.args.claim.now) c.args.kind) (crons d) c.loop-job.job (omega (arith, long, c.loop-job-test.false)) c.loop-job.invariant)
