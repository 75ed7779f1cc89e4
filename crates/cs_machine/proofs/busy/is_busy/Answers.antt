use Rattle.std.proofs.Common.{◌+◌, arith, subst, sym}
use Rattle.cs_machine.specs.Busy.{IsOver}
use Rattle.cs_machine.proofs.Lasting.{busy_more, over_none}
use Rattle.cs_machine.proofs.busy.is_busy.Goals as goal

pub loop-number-init : goal.loop-number-init
loop-number-init c = record { over = over_none c.args.jobs.now _; busy = λ t low high. absurd (omega (arith, low, high)) }

pub over_after-over-requires : goal.over_after-over-requires
over_after-over-requires c = subst (λ n. IsOver c.args.jobs.now n c.loop-number.over) (sym c.in-Some.ensures.value) c.loop-number.invariant.over

pub loop-number-preserved : goal.loop-number-preserved
loop-number-preserved c =
    let over : IsOver c.args.jobs.now (c.loop-number.number + 1) c.over_after-over.result = subst (λ n. IsOver c.args.jobs.now (n + 1) c.over_after-over.result) c.in-Some.ensures.value c.over_after-over.ensures in
    record {
      over = over;
      busy = busy_more c.args.jobs.now c.args.from c.loop-number.number c.over_after-over.result c.loop-number.invariant.busy over (λ reached. c.is_quiet.ensures c.if-is_quiet.false (omega (arith, reached)));
    }

pub returns : goal.returns
returns c = λ yes t low high. c.loop-number.invariant.busy t low (omega (arith, high))
