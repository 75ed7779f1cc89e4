use Rattle.std.proofs.Common.{refl, ap, arith, sym, subst, ◌∙◌, ◌≡◌, ◌++◌, ◌∷◌, [], None}
use Rattle.cs_plan.specs.Plan.{as_plan}
use Rattle.cs_history.specs.History.{going, pass_of, same_run}
use Rattle.cs_history.specs.Step.{State, after, refusal}
use Rattle.cs_history.specs.declared.event.Event.TheVariants.{Got}
use Rattle.cs_locks.specs.Locks.{IsCounted}
use Rattle.cs_core.specs.Standing.{IsKept, Standing, going_holds, names, state_in, waiting_holds}
use Rattle.cs_history.proofs.Lists.{total-map, one}
use Rattle.cs_history.specs.declared.run.Going.{Going}
use Rattle.cs_core.proofs.Counted.{names_hold}
use Rattle.cs_core.proofs.Kept.{got_new, kept_got, waits_now}
use Rattle.cs_core.proofs.Runs.{has_name, names_others}
use Rattle.cs_core.proofs.event_core.Core.take_got.Goals as goal

pub add_run-requires-clause-new : goal.add_run-requires-clause-new
add_run-requires-clause-new c =
    let p = as_plan c.self.inside.rules in
    let s = state_in c.self.inside.minute c.self.inside.up c.self.inside.due.items c.self.inside.waiting c.self.inside.running c.self.inside.stamps.items (pass_of c.self.inside.begun c.self.inside.left.items) in
    let may = subst (λ (x : Standing). refusal (as_plan x.plan) x.state (Got c.args.run.job c.args.run.at) ≡ None) (sym c.self.view_is) c.requires in
    got_new p s c.self.inside.held c.self.inside.wanted c.self.inside.lone c.self.invariant c.args.run may

pub take_run-requires-clause-there : goal.take_run-requires-clause-there
take_run-requires-clause-there c =
    let p = as_plan c.self.inside.rules in
    let s = state_in c.self.inside.minute c.self.inside.up c.self.inside.due.items c.self.inside.waiting c.self.inside.running c.self.inside.stamps.items (pass_of c.self.inside.begun c.self.inside.left.items) in
    let may = subst (λ (x : Standing). refusal (as_plan x.plan) x.state (Got c.args.run.job c.args.run.at) ≡ None) (sym c.self.view_is) c.requires in
    has_name c.args.run c.self.inside.waiting ∙ waits_now p s c.self.inside.held c.self.inside.wanted c.self.inside.lone c.self.invariant c.args.run may

pub take_run-requires-clause-once : goal.take_run-requires-clause-once
take_run-requires-clause-once c =
    let all = total-map (λ w. one (same_run c.args.run w)) (λ (x : Going). x.run) c.self.inside.waiting in
    omega (arith, all, c.self.invariant.named.once c.args.run)

pub take_run-requires-clause-counted : goal.take_run-requires-clause-counted
take_run-requires-clause-counted c = subst (λ hs. IsCounted hs c.self.inside.wanted) (names_hold (as_plan c.self.inside.rules) c.self.inside.waiting) c.self.invariant.waits

pub invariant_of-self-2 : goal.invariant_of-self-2
invariant_of-self-2 c =
    let p = as_plan c.self.inside.rules in
    let s = state_in c.self.inside.minute c.self.inside.up c.self.inside.due.items c.self.inside.waiting c.self.inside.running c.self.inside.stamps.items (pass_of c.self.inside.begun c.self.inside.left.items) in
    let may = subst (λ (x : Standing). refusal (as_plan x.plan) x.state (Got c.args.run.job c.args.run.at) ≡ None) (sym c.self.view_is) c.requires in
    let number = c.number-since.ensures.value in
    let more = c.in_ok-add_run.ensures.more ∙ ap (λ t. c.self.inside.running ++ going c.args.run.job c.args.run.at t ∷ []) number in
    let fewer = ap (λ rs. names rs) c.take_run.ensures.others ∙ names_others c.args.run c.self.inside.waiting in
    let same : state_in s.now s.up s.pending c.take_run.new.runs c.add_run.new.runs s.stamps s.pass ≡ after p s (Got c.args.run.job c.args.run.at) =
    λ i. record { now = s.now; up = s.up; pending = s.pending; waiting = fewer i; running = more i; stamps = s.stamps; pass = s.pass } in
    let counted = subst (λ rs. IsCounted (going_holds p rs) c.add_run.new.locks) more c.in_ok-add_run.ensures.counted in
    let left = subst (λ hs. IsCounted hs c.take_run.new.locks) (sym (names_hold p c.take_run.new.runs) ∙ ap (λ ws. waiting_holds p ws) fewer) c.take_run.ensures.counted in
    subst (λ (x : State). IsKept p x c.add_run.new.locks c.take_run.new.locks c.self.inside.lone) (sym same) (kept_got p s c.self.inside.held c.self.inside.wanted c.self.inside.lone c.self.invariant c.args.run may c.add_run.new.locks c.take_run.new.locks counted left)

pub returns-clause-takes : goal.returns-clause-takes
returns-clause-takes c =
    let p = as_plan c.self.inside.rules in
    let s = state_in c.self.inside.minute c.self.inside.up c.self.inside.due.items c.self.inside.waiting c.self.inside.running c.self.inside.stamps.items (pass_of c.self.inside.begun c.self.inside.left.items) in
    let number = c.number-since.ensures.value in
    let more = c.in_ok-add_run.ensures.more ∙ ap (λ t. c.self.inside.running ++ going c.args.run.job c.args.run.at t ∷ []) number in
    let fewer = ap (λ rs. names rs) c.take_run.ensures.others ∙ names_others c.args.run c.self.inside.waiting in
    let same : state_in s.now s.up s.pending c.take_run.new.runs c.add_run.new.runs s.stamps s.pass ≡ after p s (Got c.args.run.job c.args.run.at) =
    λ i. record { now = s.now; up = s.up; pending = s.pending; waiting = fewer i; running = more i; stamps = s.stamps; pass = s.pass } in
    (refl, same ∙ ap (λ (x : Standing). after (as_plan x.plan) x.state (Got c.args.run.job c.args.run.at)) c.self.view_is)
