use Rattle.std.proofs.Common.{rules, ◌≡◌, ◌&&◌, true, sym, arith}
use Rattle.std.proofs.lemmas.Bool.{and_from}
use Rattle.cs_plan.specs.Plan.{as_plan, crons}
use Rattle.cs_history.specs.Plan.{locks, waits}
use Rattle.cs_classes.proofs.Lists.{any_below}
use Rattle.cs_classes.proofs.locks.has_waiter.Goals as goal

pub returns-then-locks : goal.returns-then-locks
returns-then-locks c =
    let p = as_plan c.args.plan.now in
    let w : waits p c.loop-number.number ≡ true = search rules in
    let k : locks p c.args.group c.loop-number.number ≡ true = search rules in
    sym (any_below (λ j. waits p j && locks p c.args.group j) c.loop-number.number (crons c.args.plan.now) (omega (arith, c.loop-number-test.true, c.crons-number-end.ensures.value)) (and_from (waits p c.loop-number.number) (locks p c.args.group c.loop-number.number) w k))
