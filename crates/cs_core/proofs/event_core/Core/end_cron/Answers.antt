use Rattle.std.proofs.Common.{ap, sym, subst, ◌≡◌, None, Some, true, if◌then◌else◌, set, ◌-◌, ◌/◌}
use Rattle.cs_plan.specs.Plan.{as_plan}
use Rattle.cs_history.specs.History.{pass_of}
use Rattle.cs_history.specs.Plan.{is_cron}
use Rattle.cs_history.specs.Step.{State, after, refusal}
use Rattle.cs_history.specs.declared.event.Event.TheVariants.{End}
use Rattle.cs_locks.specs.Locks.{IsCounted}
use Rattle.cs_core.specs.Standing.{IsKept, Standing, going_holds, state_in}
use Rattle.cs_core.proofs.Kept.{end_once, kept_cron}
use Rattle.cs_core.proofs.event_core.Core.end_cron.Goals as goal

pub take_run-requires-clause-once : goal.take_run-requires-clause-once
take_run-requires-clause-once c =
    let p = as_plan c.self.inside.rules in
    let s = state_in c.self.inside.minute c.self.inside.up c.self.inside.due.items c.self.inside.waiting c.self.inside.running c.self.inside.stamps.items (pass_of c.self.inside.begun c.self.inside.left.items) in
    let may = subst (λ (x : Standing). refusal (as_plan x.plan) x.state (End c.args.run) ≡ None) (sym c.self.view_is) c.requires.may in
    end_once p s c.self.inside.held c.self.inside.wanted c.self.inside.lone c.self.invariant c.args.run may

pub invariant_of-self : goal.invariant_of-self
invariant_of-self c =
    let p = as_plan c.self.inside.rules in
    let s = state_in c.self.inside.minute c.self.inside.up c.self.inside.due.items c.self.inside.waiting c.self.inside.running c.self.inside.stamps.items (pass_of c.self.inside.begun c.self.inside.left.items) in
    let may = subst (λ (x : Standing). refusal (as_plan x.plan) x.state (End c.args.run) ≡ None) (sym c.self.view_is) c.requires.may in
    let cron : is_cron p c.args.run.job ≡ true = subst (λ (x : Standing). is_cron (as_plan x.plan) c.args.run.job ≡ true) (sym c.self.view_is) c.requires.cron in
    let same : state_in s.now s.up s.pending c.self.inside.waiting c.take_run.new.runs s.stamps s.pass ≡ after p s (End c.args.run) =
    λ i. record { now = s.now; up = s.up; pending = s.pending; waiting = s.waiting; running = c.take_run.ensures.others i; stamps = sym (ap (λ b. if b then s.stamps else set s.stamps (c.args.run.job - p.crons) (Some (c.args.run.at / 1440))) cron) i; pass = s.pass } in
    subst (λ (x : State). IsKept p x c.take_run.new.locks c.self.inside.wanted c.self.inside.lone) (sym same)
    (kept_cron p s c.self.inside.held c.self.inside.wanted c.self.inside.lone c.self.invariant c.args.run may c.take_run.new.locks cron (subst (λ rs. IsCounted (going_holds p rs) c.take_run.new.locks) c.take_run.ensures.others c.take_run.ensures.counted))
