use Rattle.std.proofs.Common.{ap, sym, subst, ◌∙◌, ◌≡◌, ◌++◌, ◌∷◌, [], None}
use Rattle.cs_plan.specs.Plan.{as_plan}
use Rattle.cs_history.specs.History.{answer, going, pass_of, run_of, Waits}
use Rattle.cs_history.specs.Step.{State, refusal}
use Rattle.cs_history.specs.declared.event.Event.TheVariants.{Begin}
use Rattle.cs_locks.specs.Locks.{IsCounted}
use Rattle.cs_core.specs.Standing.{IsKept, Standing, names, state_in, waiting_holds}
use Rattle.cs_core.proofs.Counted.{names_hold}
use Rattle.cs_core.proofs.Kept.{begin_not_waiting, begun, kept_waiting, waits_take}
use Rattle.cs_core.proofs.Runs.{has_name, names_push}
use Rattle.cs_core.proofs.event_core.Core.begin_waiting.Goals as goal

pub add_run-requires-clause-new : goal.add_run-requires-clause-new
add_run-requires-clause-new c =
    let p = as_plan c.self.inside.rules in
    let s = state_in c.self.inside.minute c.self.inside.up c.self.inside.due.items c.self.inside.waiting c.self.inside.running c.self.inside.stamps.items (pass_of c.self.inside.begun c.self.inside.left.items) in
    let may = subst (λ (x : Standing). refusal (as_plan x.plan) x.state (Begin c.args.job) ≡ None) (sym c.self.view_is) c.requires.may in
    rw (c.number-at.ensures.value) (has_name (run_of c.args.job s.now) c.self.inside.waiting ∙ begin_not_waiting p s c.self.inside.held c.self.inside.wanted c.self.inside.lone c.self.invariant c.args.job may)

pub add_run-requires-clause-counted : goal.add_run-requires-clause-counted
add_run-requires-clause-counted c = subst (λ hs. IsCounted hs c.self.inside.wanted) (names_hold (as_plan c.self.inside.rules) c.self.inside.waiting) c.self.invariant.waits

pub invariant_of-self-2 : goal.invariant_of-self-2
invariant_of-self-2 c =
    let p = as_plan c.self.inside.rules in
    let s = state_in c.self.inside.minute c.self.inside.up c.self.inside.due.items c.self.inside.waiting c.self.inside.running c.self.inside.stamps.items (pass_of c.self.inside.begun c.self.inside.left.items) in
    let may = subst (λ (x : Standing). refusal (as_plan x.plan) x.state (Begin c.args.job) ≡ None) (sym c.self.view_is) c.requires.may in
    let waits = subst (λ (x : Standing). answer (as_plan x.plan) x.state.running c.args.job ≡ Waits) (sym c.self.view_is) c.requires.waits in
    let more = c.in_ok-add_run.ensures.more ∙ ap (λ t. c.self.inside.waiting ++ going c.args.job t t ∷ []) c.number-at.ensures.value in
    let named = ap (λ rs. names rs) more ∙ names_push c.self.inside.waiting (going c.args.job s.now s.now) in
    let counted = subst (λ hs. IsCounted hs c.add_run.new.locks) (sym (names_hold p c.add_run.new.runs) ∙ ap (λ ws. waiting_holds p ws) named) c.in_ok-add_run.ensures.counted in
    let same : state_in s.now s.up c.take_job.new.pending.items c.add_run.new.runs s.running s.stamps s.pass ≡ begun p s c.self.inside.held c.self.inside.wanted c.self.inside.lone c.self.invariant c.args.job may Waits = λ i. record { now = s.now; up = s.up; pending = c.take_job.ensures i; waiting = named i; running = s.running; stamps = s.stamps; pass = s.pass } in
    subst (λ (x : State). IsKept p x c.self.inside.held c.add_run.new.locks c.self.inside.lone) (sym same) (kept_waiting p s c.self.inside.held c.self.inside.wanted c.self.inside.lone c.self.invariant c.args.job may c.add_run.new.locks waits (waits_take p s.running c.args.job c.self.invariant.plan waits) counted)
