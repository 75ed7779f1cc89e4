use Rattle.std.proofs.Common.{ap, sym, subst, ◌∙◌, ◌≡◌, ◌++◌, ◌∷◌, [], None}
use Rattle.cs_plan.specs.Plan.{as_plan}
use Rattle.cs_history.specs.History.{going, pass_of, without_first}
use Rattle.cs_history.specs.Step.{refusal}
use Rattle.cs_history.specs.declared.event.Event.TheVariants.{Catch}
use Rattle.cs_locks.specs.Locks.{IsCounted}
use Rattle.cs_core.specs.Standing.{Standing, going_holds, state_in}
use Rattle.cs_core.proofs.Kept.{catch_new, kept_catch, pass_removed}
use Rattle.cs_core.proofs.event_core.Core.take_catch.Goals as goal

pub add_run-requires-clause-new : goal.add_run-requires-clause-new
add_run-requires-clause-new c =
    let p = as_plan c.self.inside.rules in
    let s = state_in c.self.inside.minute c.self.inside.up c.self.inside.due.items c.self.inside.waiting c.self.inside.running c.self.inside.stamps.items (pass_of c.self.inside.begun c.self.inside.left.items) in
    let may = subst (λ (x : Standing). refusal (as_plan x.plan) x.state (Catch c.args.job) ≡ None) (sym c.self.view_is) c.requires in
    rw (c.number-at.ensures.value) (catch_new p s c.self.inside.held c.self.inside.wanted c.self.inside.lone c.self.invariant c.args.job may)

pub invariant_of-self-2 : goal.invariant_of-self-2
invariant_of-self-2 c =
    let p = as_plan c.self.inside.rules in
    let s = state_in c.self.inside.minute c.self.inside.up c.self.inside.due.items c.self.inside.waiting c.self.inside.running c.self.inside.stamps.items (pass_of c.self.inside.begun c.self.inside.left.items) in
    let may = subst (λ (x : Standing). refusal (as_plan x.plan) x.state (Catch c.args.job) ≡ None) (sym c.self.view_is) c.requires in
    let more = c.in_ok-add_run.ensures.more ∙ ap (λ t. c.self.inside.running ++ going c.args.job t t ∷ []) c.number-at.ensures.value in
    let passed : pass_of c.self.inside.begun c.remove.new.self.items ≡ without_first (pass_of c.self.inside.begun c.self.inside.left.items) = ap (λ js. pass_of c.self.inside.begun js) c.remove.ensures.items ∙ pass_removed c.self.inside.begun c.self.inside.left.items in
    rw (more, passed) (kept_catch p s c.self.inside.held c.self.inside.wanted c.self.inside.lone c.self.invariant c.args.job may c.add_run.new.locks (subst (λ rs. IsCounted (going_holds p rs) c.add_run.new.locks) more c.in_ok-add_run.ensures.counted))
