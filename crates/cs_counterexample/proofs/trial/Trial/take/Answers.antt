use Rattle.std.proofs.Common.{◌≡◌, ◌∙◌, ap, sym, subst}
use Rattle.cs_plan.specs.Plan.{Declared, as_plan}
use Rattle.cs_counterexample.specs.Trial.{Tried, break_at_start, break_by_reply, is_late}
use Rattle.cs_counterexample.proofs.Takes.{shown_as, taken_as}
use Rattle.cs_counterexample.proofs.trial.Trial.take.Goals as goal

pub returns-in-Ok-clause-taken : goal.returns-in-Ok-clause-taken
returns-in-Ok-clause-taken c =
    let d = c.self.inside.core.plan in
    let s = c.self.inside.core.state in
    let e = c.args.event in
    let same = c.self.view_is ∙ c.is_late.ensures.same in
    taken_as c.args.self.now d s c.self.inside.shown e _ same (record {
      plan = c.in-Ok.ensures.plan;
      legal = c.in-Ok.ensures.steps.0;
      in_time = ap (λ (t : Tried). is_late (as_plan t.plan) t.state.running e) same ∙ sym c.is_late.ensures.late ∙ c.if-is_late.false;
      state = c.in-Ok.ensures.steps.2;
      shown =
          shown_as (as_plan d) s e c.self.inside.shown _ _ _ _ _ _ c.self.invariant.1 c.in-Ok.ensures.steps.1
          (c.number-now.ensures.value ∙ c.now.ensures)
          c.run_by-run.ensures
          (subst (λ (t : Tried). c.break_at_start-at_start.result ≡ break_at_start t c.run_by-run.result) (sym c.self.view_is) c.break_at_start-at_start.ensures)
          (c.break_by_reply-broken.ensures ∙ ap (λ (d : Declared). break_by_reply (as_plan d) c.in-Ok.reply c.run_by-run.result c.break_at_start-at_start.result) (c.plan-in-Ok.ensures ∙ c.in-Ok.ensures.plan))
          c.or-self-inside.ensures;
    })
