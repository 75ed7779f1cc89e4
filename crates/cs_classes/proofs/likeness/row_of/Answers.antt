use Rattle.std.proofs.Common.{List, [], ℕ, ◌∙◌, ap, arith, slice_index_or}
use Rattle.std.proofs.lemmas.List.{get_or_default}
use Rattle.cs_schedule.specs.Numbers.{has}
use Rattle.cs_classes.specs.Likeness.{likeness_by, no_times}
use Rattle.cs_classes.proofs.Alike.{row_is, row_more}
use Rattle.cs_classes.proofs.likeness.row_of.Goals as goal

pub loop-job-preserved : goal.loop-job-preserved
loop-job-preserved c =
    let sets = c.in_ok-minutes.minutes.items in
    let times = c.args.times.now in
    let j = c.loop-job.job in
    let t = c.index-times-job.result in
    let time = c.index-times-job.is ∙ get_or_default times j t no_times c.loop-job-test.true in
    let set = c.index.ensures ∙ get_or_default sets j c.index.result.now [] (omega (arith, c.loop-job-test.true, c.in_ok-minutes.ensures.long)) in
    row_more sets times c.loop-job.row c.push.new.self j c.likeness_of.result c.in_ok-push.ensures.ok
    (c.likeness_of.ensures ∙ ap (λ (ms : List ℕ). likeness_by (has ms) t) set ∙ ap (likeness_by (has (slice_index_or sets j []))) time) c.loop-job.invariant

pub returns : goal.returns
returns c d are =
    row_is d c.args.class.now c.in_ok-minutes.minutes.items c.args.times.now c.loop-job.row c.in_ok-minutes.ensures are
    (omega (arith, c.loop-job.invariant.0, c.loop-job-test.false, c.loop-job.auto.job-end))
    (λ j lt. c.loop-job.invariant.1 j (omega (arith, lt, c.loop-job-test.false)))
