use Rattle.std.proofs.Common.{rules, ◌≡◌, ◌<◌, ℕ, Bool, true, false, Option, map, sym, ap, ◌∙◌, arith}
use Rattle.cs_theorem.specs.Faults.{Fault, ReachTooShort, first_of, unless}
use Rattle.cs_check.specs.Stretches.{is_far}
use Rattle.cs_classes.specs.Said.{said}
use Rattle.cs_classes.specs.Used.{seen}
use Rattle.cs_classes.specs.Claim.{as_certificate}
use Rattle.cs_plan.specs.Plan.{as_plan, crons}
use Rattle.cs_history.specs.Lists.{below}
use Rattle.cs_theorem.proofs.Firsts.{below-found, below-none, first_of-more}
use Rattle.cs_check.proofs.reaches.first_fault.Goals as goal

pub returns-then-not-is_far : goal.returns-then-not-is_far
returns-then-not-is_far c =
    let far = is_far (as_plan c.args.case.now.plan.now) (as_certificate (said c.args.case.now.claim.now)) (map seen c.args.stretches.now) in
    let f : ℕ → Option Fault = λ j. unless (far j) (ReachTooShort j) in
    let no : c.is_far.result ≡ false = search rules in
    let lt : c.loop-job.job < crons c.args.case.now.plan.now = omega (arith, c.loop-job-test.true, c.crons-job-end.ensures.value) in
    sym (below-found f c.loop-job.job (crons c.args.case.now.plan.now) (ReachTooShort c.loop-job.job) lt c.loop-job.invariant (ap (λ (b : Bool). unless b (ReachTooShort c.loop-job.job)) (sym c.is_far.ensures ∙ no)))

pub loop-job-preserved : goal.loop-job-preserved
loop-job-preserved c =
    let far = is_far (as_plan c.args.case.now.plan.now) (as_certificate (said c.args.case.now.claim.now)) (map seen c.args.stretches.now) in
    let f : ℕ → Option Fault = λ j. unless (far j) (ReachTooShort j) in
    let yes : c.is_far.result ≡ true = search rules in
    first_of-more f c.loop-job.job c.loop-job.invariant (ap (λ (b : Bool). unless b (ReachTooShort c.loop-job.job)) (sym c.is_far.ensures ∙ yes))

pub returns : goal.returns
returns c =
    let far = is_far (as_plan c.args.case.now.plan.now) (as_certificate (said c.args.case.now.claim.now)) (map seen c.args.stretches.now) in
    let f : ℕ → Option Fault = λ j. unless (far j) (ReachTooShort j) in
    let e : c.loop-job.job ≡ crons c.args.case.now.plan.now = omega (arith, c.crons-job-end.ensures.value) in
    sym (ap (λ (k : ℕ). first_of f (below k)) (sym e) ∙ below-none f c.loop-job.job c.loop-job.invariant)
