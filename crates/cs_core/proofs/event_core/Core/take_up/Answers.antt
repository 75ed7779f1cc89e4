use Rattle.std.proofs.Common.{rules, ap, sym, subst, ◌∙◌, ◌≡◌, None, true}
use Rattle.cs_plan.specs.Plan.{as_plan}
use Rattle.cs_history.specs.History.{opened, owed_at, pass_of}
use Rattle.cs_history.specs.Step.{after, refusal}
use Rattle.cs_history.specs.declared.event.Event.TheVariants.{Up}
use Rattle.cs_core.specs.Standing.{IsKept, Standing, names, owed_beside, state_in}
use Rattle.cs_core.proofs.Kept.{kept_up, owed_is}
use Rattle.cs_core.proofs.event_core.Core.take_up.Goals as goal

pub invariant_of-self : goal.invariant_of-self
invariant_of-self c =
    let p = as_plan c.self.inside.rules in
    let s = state_in c.self.inside.minute c.self.inside.up c.self.inside.due.items c.self.inside.waiting c.self.inside.running c.self.inside.stamps.items (pass_of c.self.inside.begun c.self.inside.left.items) in
    let may = subst (λ (x : Standing). refusal (as_plan x.plan) x.state (Up c.args.minute) ≡ None) (sym c.self.view_is) c.requires in
    let at : c.unwrap-minute.result ≡ c.args.minute = search rules in
    let begun = pass_of c.self.inside.begun c.self.inside.left.items in
    let m = c.unwrap-minute.result in
    let passed = c.open_pass.ensures ∙ ap (λ ss. opened begun true (pass_of m (owed_beside p ss c.self.inside.lone m))) c.as_slice.ensures.value ∙ ap (λ js. opened begun true (pass_of m js)) (owed_is p s.stamps s.running c.self.inside.lone m c.self.invariant.lone)
    ∙ ap (λ t. opened begun true (pass_of t (owed_at p s.stamps s.running t))) at in
    let same : state_in m true c.clear.new.self.items c.clear-2.new.self c.self.inside.running c.self.inside.stamps.items (pass_of c.open_pass.new.begun c.open_pass.new.left.items) ≡ after p s (Up c.args.minute) =
    λ i. record { now = at i; up = true; pending = c.clear.ensures i; waiting = names (c.clear-2.ensures i); running = s.running; stamps = s.stamps; pass = passed i } in
    subst (λ x. IsKept p x c.self.inside.held c.clear-3.new.self c.self.inside.lone) (sym same) (kept_up p s c.self.inside.held c.self.inside.wanted c.self.inside.lone c.self.invariant c.args.minute c.clear-3.new.self may c.clear-3.ensures)

pub returns-clause-state : goal.returns-clause-state
returns-clause-state c =
    let p = as_plan c.self.inside.rules in
    let s = state_in c.self.inside.minute c.self.inside.up c.self.inside.due.items c.self.inside.waiting c.self.inside.running c.self.inside.stamps.items (pass_of c.self.inside.begun c.self.inside.left.items) in
    let at : c.unwrap-minute.result ≡ c.args.minute = search rules in
    let begun = pass_of c.self.inside.begun c.self.inside.left.items in
    let m = c.unwrap-minute.result in
    let passed = c.open_pass.ensures ∙ ap (λ ss. opened begun true (pass_of m (owed_beside p ss c.self.inside.lone m))) c.as_slice.ensures.value ∙ ap (λ js. opened begun true (pass_of m js)) (owed_is p s.stamps s.running c.self.inside.lone m c.self.invariant.lone)
    ∙ ap (λ t. opened begun true (pass_of t (owed_at p s.stamps s.running t))) at in
    let same : state_in m true c.clear.new.self.items c.clear-2.new.self c.self.inside.running c.self.inside.stamps.items (pass_of c.open_pass.new.begun c.open_pass.new.left.items) ≡ after p s (Up c.args.minute) =
    λ i. record { now = at i; up = true; pending = c.clear.ensures i; waiting = names (c.clear-2.ensures i); running = s.running; stamps = s.stamps; pass = passed i } in
    same ∙ ap (λ (x : Standing). after (as_plan x.plan) x.state (Up c.args.minute)) c.self.view_is
