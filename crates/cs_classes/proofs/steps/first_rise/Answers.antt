use Rattle.std.proofs.Common.{subst, sym, ◌∙◌, arith}
use Rattle.cs_plan.specs.Plan.{as_plan}
use Rattle.cs_theorem.proofs.Firsts.{minute-found, minutes-none, first_of-more}
use Rattle.cs_classes.specs.Work.{AreWorks, rise_at}
use Rattle.cs_classes.proofs.steps.first_rise.Goals as goal

pub returns-in-Some : goal.returns-in-Some
returns-in-Some c =
    let p = as_plan c.args.plan.now in
    let q = c.rise_at.ensures p c.args.eve.now c.args.day.now (subst (AreWorks p c.args.eve.now c.args.day.now) (sym c.as_slice.ensures.value) c.in_ok-works.ensures) in
    sym (minute-found (rise_at p c.args.eve.now c.args.day.now) c.loop-minute.minute c.in-Some.found (omega arith) c.loop-minute.invariant (sym q ∙ c.in-Some.is))

pub loop-minute-preserved : goal.loop-minute-preserved
loop-minute-preserved c =
    let p = as_plan c.args.plan.now in
    let q = c.rise_at.ensures p c.args.eve.now c.args.day.now (subst (AreWorks p c.args.eve.now c.args.day.now) (sym c.as_slice.ensures.value) c.in_ok-works.ensures) in
    first_of-more (rise_at p c.args.eve.now c.args.day.now) c.loop-minute.minute c.loop-minute.invariant (sym q ∙ c.in_default.is)

pub returns : goal.returns
returns c = sym (minutes-none (rise_at (as_plan c.args.plan.now) c.args.eve.now c.args.day.now) c.loop-minute.minute (omega arith) c.loop-minute.invariant)
