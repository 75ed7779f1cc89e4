use Rattle.cs_plan.specs.Plan.{as_plan}
use Rattle.cs_counterexample.specs.Shown.{IsNotShown}
use Rattle.cs_counterexample.specs.declared.shown.NotShown.TheVariants.{NothingBroken, OutOfMemory}
use Rattle.std.proofs.Common.{◌≡◌}
use Rattle.cs_counterexample.proofs.Scripts.{ends, goes_on, if_err, not_unsafe, shows, shows_not, why_not}
use Rattle.cs_counterexample.proofs.Tellable.{tells}
use Rattle.cs_counterexample.proofs.proving.prove_unsafe.Goals as goal

pub returns-in_err-take-clause-not_shown : goal.returns-in_err-take-clause-not_shown
returns-in_err-take-clause-not_shown c =
    if_err c.from_residual-in_err-take.result c.in_err-take.field-0.0 (IsNotShown (as_plan c.args.plan.now) c.args.script.now) c.from_residual-in_err-take.ensures.1
    (why_not c.args.plan.now c.args.script.now _ _ _ _ _ c.as_slice-event-items.ensures c.loop-place-test.true c.loop-place.invariant c.in_err-take.ensures.stops)

pub returns-in_err-take-clause-exact : goal.returns-in_err-take-clause-exact
returns-in_err-take-clause-exact c unsafe =
    if_err c.from_residual-in_err-take.result c.in_err-take.field-0.0 (λ f. f ≡ OutOfMemory) c.from_residual-in_err-take.ensures.1
    (not_unsafe (as_plan c.args.plan.now) c.args.script.now c.in_err-take.field-0.0
    (why_not c.args.plan.now c.args.script.now _ _ _ _ _ c.as_slice-event-items.ensures c.loop-place-test.true c.loop-place.invariant c.in_err-take.ensures.stops)
    unsafe)

pub loop-place-preserved : goal.loop-place-preserved
loop-place-preserved c = goes_on c.args.plan.now c.args.script.now _ _ _ _ _ c.as_slice-event-items.ensures c.loop-place-test.true c.loop-place.invariant c.in_ok-take.ensures.taken

pub returns-in-Some-clause-shown : goal.returns-in-Some-clause-shown
returns-in-Some-clause-shown c =
    shows c.args.plan.now c.args.script.now c.loop-place.trial c.shown.result c.in-Some.shown
    (ends c.args.plan.now c.args.script.now _ _ _ c.as_slice-event-items.ensures c.loop-place-test.false c.loop-place.auto.place-end c.loop-place.invariant)
    c.shown.ensures c.in-Some.is

pub returns-clause-not_shown : goal.returns-clause-not_shown
returns-clause-not_shown c =
    shows_not c.args.plan.now c.args.script.now c.loop-place.trial c.shown.result
    (ends c.args.plan.now c.args.script.now _ _ _ c.as_slice-event-items.ensures c.loop-place-test.false c.loop-place.auto.place-end c.loop-place.invariant)
    c.shown.ensures c.in-None.is

pub returns-clause-exact : goal.returns-clause-exact
returns-clause-exact c unsafe =
    not_unsafe (as_plan c.args.plan.now) c.args.script.now NothingBroken
    (shows_not c.args.plan.now c.args.script.now c.loop-place.trial c.shown.result
    (ends c.args.plan.now c.args.script.now _ _ _ c.as_slice-event-items.ensures c.loop-place-test.false c.loop-place.auto.place-end c.loop-place.invariant)
    c.shown.ensures c.in-None.is)
    unsafe

pub returns-in-Some-clause-tellable : goal.returns-in-Some-clause-tellable
returns-in-Some-clause-tellable c =
    tells c.args.plan.now c.args.script.now c.loop-place.trial c.shown.result c.in-Some.shown c.jobs-jobs.ensures.resolved.crons
    (ends c.args.plan.now c.args.script.now _ _ _ c.as_slice-event-items.ensures c.loop-place-test.false c.loop-place.auto.place-end c.loop-place.invariant)
    c.shown.ensures c.in-Some.is
