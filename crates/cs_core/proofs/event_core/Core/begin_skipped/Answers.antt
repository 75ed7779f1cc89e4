use Rattle.std.proofs.Common.{sym, subst, ◌≡◌, None}
use Rattle.cs_plan.specs.Plan.{as_plan}
use Rattle.cs_history.specs.History.{answer, pass_of, Skips}
use Rattle.cs_history.specs.Step.{refusal}
use Rattle.cs_history.specs.declared.event.Event.TheVariants.{Begin}
use Rattle.cs_core.specs.Standing.{Standing, state_in}
use Rattle.cs_core.proofs.Kept.{kept_skipped}
use Rattle.cs_core.proofs.event_core.Core.begin_skipped.Goals as goal

pub invariant_of-self : goal.invariant_of-self
invariant_of-self c =
    let p = as_plan c.self.inside.rules in
    let s = state_in c.self.inside.minute c.self.inside.up c.self.inside.due.items c.self.inside.waiting c.self.inside.running c.self.inside.stamps.items (pass_of c.self.inside.begun c.self.inside.left.items) in
    let may = subst (λ (x : Standing). refusal (as_plan x.plan) x.state (Begin c.args.job) ≡ None) (sym c.self.view_is) c.requires.may in
    let skips = subst (λ (x : Standing). answer (as_plan x.plan) x.state.running c.args.job ≡ Skips) (sym c.self.view_is) c.requires.skips in
    rw (c.take_job.ensures) (kept_skipped p s c.self.inside.held c.self.inside.wanted c.self.inside.lone c.self.invariant c.args.job may skips)
