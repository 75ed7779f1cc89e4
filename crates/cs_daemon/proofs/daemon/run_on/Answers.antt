use Rattle.std.proofs.Common.{◌∙◌, sym}
use Rattle.cs_check.specs.Checked.{plan_in}
use Rattle.cs_daemon.proofs.Storing.{all_kept}
use Rattle.cs_daemon.proofs.daemon.run_on.Goals as goal

pub returns-clause-back : goal.returns-clause-back
returns-clause-back g c = λ is. c.run_threads-stored.ensures.back (sym c.close.ensures.cause ∙ is)

pub returns-clause-stamps : goal.returns-clause-stamps
returns-clause-stamps g c =
    all_kept g.S.StampStore.reads g.S.StampStore.writes (plan_in c.args.checked) c.plan-plan.result.now g.J.PlanLedger.plan c.plan-plan.result.now c.behind.result.keep.core
    c.open-stored.result.0.stamps.items c.run_threads-stored.result.0.stamps.items c.args.store.now c.open-stored.new.store c.run_threads-stored.new.store c.behind.new.store c.close.result.keep
    c.plan-plan.ensures c.requires.plan c.plan-plan.ensures c.close.ensures.some c.close.ensures.core c.open-stored.ensures.read c.run_threads-stored.ensures.written c.behind.ensures.written
