use Rattle.std.proofs.Common.{arith, subst, sym}
use Rattle.cs_plan.specs.Plan.{as_plan}
use Rattle.cs_counterexample.specs.Trial.{IsDeadline}
use Rattle.cs_counterexample.proofs.deadline.first_deadline.Goals as goal

pub loop-going-preserved : goal.loop-going-preserved
loop-going-preserved c = λ n less rest.
    c.loop-going.invariant n (omega (arith, less, c.min-first.ensures)) (subst (IsDeadline (as_plan c.args.plan.now) n) (sym c.in-Some.ensures.steps) (omega (arith, less, c.min-first.ensures, c.end_of.ensures), rest))
