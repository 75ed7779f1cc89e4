use Rattle.std.proofs.Common.{rules, ap, sym, subst, ◌∙◌, ◌≡◌, None, true}
use Rattle.cs_plan.specs.Plan.{as_plan}
use Rattle.cs_history.specs.History.{opened, owed_at, pass_of}
use Rattle.cs_history.specs.Plan.{due_at, is_pass_minute}
use Rattle.cs_history.specs.Step.{State, after, refusal}
use Rattle.cs_history.specs.declared.event.Event.TheVariants.{Minute}
use Rattle.cs_core.specs.Standing.{IsKept, Standing, owed_beside, state_in}
use Rattle.cs_core.proofs.Kept.{kept_minute, not_opened, owed_is}
use Rattle.cs_core.proofs.event_core.Core.take_minute.Goals as goal

pub invariant_of-self : goal.invariant_of-self
invariant_of-self c =
    let p = as_plan c.self.inside.rules in
    let s = state_in c.self.inside.minute c.self.inside.up c.self.inside.due.items c.self.inside.waiting c.self.inside.running c.self.inside.stamps.items (pass_of c.self.inside.begun c.self.inside.left.items) in
    let may = subst (λ (x : Standing). refusal (as_plan x.plan) x.state (Minute c.args.minute) ≡ None) (sym c.self.view_is) c.requires in
    let at : c.unwrap-minute.result ≡ c.args.minute = search rules in
    let begun = pass_of c.self.inside.begun c.self.inside.left.items in
    let m = c.unwrap-minute.result in
    let due = c.list_due.ensures ∙ ap (λ t. due_at p t) at in
    let passed = c.open_pass.ensures ∙ ap (λ ss. opened begun true (pass_of m (owed_beside p ss c.self.inside.lone m))) c.as_slice.ensures.value ∙ ap (λ js. opened begun true (pass_of m js)) (owed_is p s.stamps s.running c.self.inside.lone m c.self.invariant.lone)
    ∙ ap (λ t. opened begun true (pass_of t (owed_at p s.stamps s.running t))) at
    ∙ ap (λ b. opened begun b (pass_of c.args.minute (owed_at p s.stamps s.running c.args.minute))) (sym (ap (λ t. is_pass_minute p t) (sym at) ∙ sym c.is_pass_minute.ensures ∙ c.if-is_pass_minute.true)) in
    let same : state_in m s.up c.list_due.new.pending.items c.self.inside.waiting s.running s.stamps (pass_of c.open_pass.new.begun c.open_pass.new.left.items) ≡ after p s (Minute c.args.minute) =
    λ i. record { now = at i; up = s.up; pending = due i; waiting = s.waiting; running = s.running; stamps = s.stamps; pass = passed i } in
    subst (λ (x : State). IsKept p x c.self.inside.held c.self.inside.wanted c.self.inside.lone) (sym same) (kept_minute p s c.self.inside.held c.self.inside.wanted c.self.inside.lone c.self.invariant c.args.minute may)

pub invariant_of-self-else-is_pass_minute : goal.invariant_of-self-else-is_pass_minute
invariant_of-self-else-is_pass_minute c =
    let p = as_plan c.self.inside.rules in
    let s = state_in c.self.inside.minute c.self.inside.up c.self.inside.due.items c.self.inside.waiting c.self.inside.running c.self.inside.stamps.items (pass_of c.self.inside.begun c.self.inside.left.items) in
    let may = subst (λ (x : Standing). refusal (as_plan x.plan) x.state (Minute c.args.minute) ≡ None) (sym c.self.view_is) c.requires in
    let at : c.unwrap-minute.result ≡ c.args.minute = search rules in
    let begun = pass_of c.self.inside.begun c.self.inside.left.items in
    let m = c.unwrap-minute.result in
    let due = c.list_due.ensures ∙ ap (λ t. due_at p t) at in
    let passed = sym (not_opened begun (pass_of c.args.minute (owed_at p s.stamps s.running c.args.minute)))
    ∙ ap (λ b. opened begun b (pass_of c.args.minute (owed_at p s.stamps s.running c.args.minute))) (sym (ap (λ t. is_pass_minute p t) (sym at) ∙ sym c.is_pass_minute.ensures ∙ c.if-is_pass_minute.false)) in
    let same : state_in m s.up c.list_due.new.pending.items c.self.inside.waiting s.running s.stamps begun ≡ after p s (Minute c.args.minute) =
    λ i. record { now = at i; up = s.up; pending = due i; waiting = s.waiting; running = s.running; stamps = s.stamps; pass = passed i } in
    subst (λ (x : State). IsKept p x c.self.inside.held c.self.inside.wanted c.self.inside.lone) (sym same) (kept_minute p s c.self.inside.held c.self.inside.wanted c.self.inside.lone c.self.invariant c.args.minute may)

pub returns-then-is_pass_minute-clause-state : goal.returns-then-is_pass_minute-clause-state
returns-then-is_pass_minute-clause-state c =
    let p = as_plan c.self.inside.rules in
    let s = state_in c.self.inside.minute c.self.inside.up c.self.inside.due.items c.self.inside.waiting c.self.inside.running c.self.inside.stamps.items (pass_of c.self.inside.begun c.self.inside.left.items) in
    let at : c.unwrap-minute.result ≡ c.args.minute = search rules in
    let begun = pass_of c.self.inside.begun c.self.inside.left.items in
    let m = c.unwrap-minute.result in
    let due = c.list_due.ensures ∙ ap (λ t. due_at p t) at in
    let passed = c.open_pass.ensures ∙ ap (λ ss. opened begun true (pass_of m (owed_beside p ss c.self.inside.lone m))) c.as_slice.ensures.value ∙ ap (λ js. opened begun true (pass_of m js)) (owed_is p s.stamps s.running c.self.inside.lone m c.self.invariant.lone)
    ∙ ap (λ t. opened begun true (pass_of t (owed_at p s.stamps s.running t))) at
    ∙ ap (λ b. opened begun b (pass_of c.args.minute (owed_at p s.stamps s.running c.args.minute))) (sym (ap (λ t. is_pass_minute p t) (sym at) ∙ sym c.is_pass_minute.ensures ∙ c.if-is_pass_minute.true)) in
    let same : state_in m s.up c.list_due.new.pending.items c.self.inside.waiting s.running s.stamps (pass_of c.open_pass.new.begun c.open_pass.new.left.items) ≡ after p s (Minute c.args.minute) =
    λ i. record { now = at i; up = s.up; pending = due i; waiting = s.waiting; running = s.running; stamps = s.stamps; pass = passed i } in
    same ∙ ap (λ (x : Standing). after (as_plan x.plan) x.state (Minute c.args.minute)) c.self.view_is
