use Rattle.std.proofs.Common.{rules, ap, arith, sym, subst, ◌∙◌, ◌≡◌, None, Some, false, if◌then◌else◌, set, ◌-◌, ◌/◌}
use Rattle.cs_plan.specs.Plan.{as_plan}
use Rattle.cs_history.specs.History.{pass_of}
use Rattle.cs_history.specs.Plan.{is_cron}
use Rattle.cs_history.specs.Step.{State, after, refusal}
use Rattle.cs_history.specs.declared.event.Event.TheVariants.{End}
use Rattle.cs_locks.specs.Locks.{IsCounted}
use Rattle.cs_core.specs.Standing.{IsKept, Standing, going_holds, state_in}
use Rattle.cs_core.proofs.Kept.{end_once, end_past, kept_anacron}
use Rattle.cs_core.proofs.event_core.Core.end_anacron.Goals as goal

pub take_run-requires-clause-once : goal.take_run-requires-clause-once
take_run-requires-clause-once c =
    let p = as_plan c.self.inside.rules in
    let s = state_in c.self.inside.minute c.self.inside.up c.self.inside.due.items c.self.inside.waiting c.self.inside.running c.self.inside.stamps.items (pass_of c.self.inside.begun c.self.inside.left.items) in
    let may = subst (λ (x : Standing). refusal (as_plan x.plan) x.state (End c.args.run) ≡ None) (sym c.self.view_is) c.requires.may in
    end_once p s c.self.inside.held c.self.inside.wanted c.self.inside.lone c.self.invariant c.args.run may

pub set_stamp-requires : goal.set_stamp-requires
set_stamp-requires c =
    let p = as_plan c.self.inside.rules in
    let s = state_in c.self.inside.minute c.self.inside.up c.self.inside.due.items c.self.inside.waiting c.self.inside.running c.self.inside.stamps.items (pass_of c.self.inside.begun c.self.inside.left.items) in
    let may = subst (λ (x : Standing). refusal (as_plan x.plan) x.state (End c.args.run) ≡ None) (sym c.self.view_is) c.requires.may in
    let now = ap (λ (x : Standing). x.state.now) c.self.view_is in
    omega (arith, end_past p s c.self.inside.held c.self.inside.wanted c.self.inside.lone c.self.invariant c.args.run may, now, c.requires.civil)

pub invariant_of-self : goal.invariant_of-self
invariant_of-self c =
    let p = as_plan c.self.inside.rules in
    let s = state_in c.self.inside.minute c.self.inside.up c.self.inside.due.items c.self.inside.waiting c.self.inside.running c.self.inside.stamps.items (pass_of c.self.inside.begun c.self.inside.left.items) in
    let may = subst (λ (x : Standing). refusal (as_plan x.plan) x.state (End c.args.run) ≡ None) (sym c.self.view_is) c.requires.may in
    let anacron : is_cron p c.args.run.job ≡ false = subst (λ (x : Standing). is_cron (as_plan x.plan) c.args.run.job ≡ false) (sym c.self.view_is) c.requires.anacron in
    let stamped : c.set_stamp.new.stamps.items ≡ set s.stamps (c.args.run.job - p.crons) (Some (c.args.run.at / 1440)) = search rules in
    let same : state_in s.now s.up s.pending c.self.inside.waiting c.take_run.new.runs c.set_stamp.new.stamps.items s.pass ≡ after p s (End c.args.run) =
    λ i. record { now = s.now; up = s.up; pending = s.pending; waiting = s.waiting; running = c.take_run.ensures.others i; stamps = (stamped ∙ sym (ap (λ b. if b then s.stamps else set s.stamps (c.args.run.job - p.crons) (Some (c.args.run.at / 1440))) anacron)) i; pass = s.pass } in
    subst (λ (x : State). IsKept p x c.take_run.new.locks c.self.inside.wanted None) (sym same)
    (kept_anacron p s c.self.inside.held c.self.inside.wanted c.self.inside.lone c.self.invariant c.args.run may c.take_run.new.locks anacron (subst (λ rs. IsCounted (going_holds p rs) c.take_run.new.locks) c.take_run.ensures.others c.take_run.ensures.counted))
