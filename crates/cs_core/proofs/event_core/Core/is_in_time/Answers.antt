use Rattle.std.proofs.Common.{ap, arith, sym, ◌∙◌, ◌-◌, ◌<◌, ◌≤◌, nat_lt}
use Rattle.std.proofs.lemmas.Bool.{lt-ltb}
use Rattle.cs_plan.specs.Plan.{as_plan}
use Rattle.cs_history.specs.Step.{is_in_time}
use Rattle.cs_core.specs.Standing.{Standing}
use Rattle.cs_core.proofs.Ends.{in_time_none, in_time_some, less_either, less_over}
use Rattle.cs_core.proofs.event_core.Core.is_in_time.Goals as goal

pub returns-then-minute-since : goal.returns-then-minute-since
returns-then-minute-since c =
    let p = as_plan c.self.inside.rules in
    let early : c.args.minute < c.in-Some.since = omega (arith, c.if-minute-since.true) in
    lt-ltb c.args.minute c.in-Some.since early ∙ sym (less_either c.args.minute c.in-Some.since (p.limit c.args.run.job) early) ∙ sym (in_time_some p c.args.minute c.args.run c.self.inside.running c.in-Some.since c.in-Some.ensures)
    ∙ ap (λ (x : Standing). is_in_time (as_plan x.plan) c.args.minute c.args.run x.state.running) c.self.view_is

pub returns-else-minute-since : goal.returns-else-minute-since
returns-else-minute-since c =
    let p = as_plan c.self.inside.rules in
    let late : c.in-Some.since ≤ c.args.minute = omega (arith, c.if-minute-since.false) in
    ap (λ n. nat_lt (c.args.minute - c.in-Some.since) n) c.limit.ensures ∙ less_over c.args.minute c.in-Some.since (p.limit c.args.run.job) late ∙ sym (in_time_some p c.args.minute c.args.run c.self.inside.running c.in-Some.since c.in-Some.ensures)
    ∙ ap (λ (x : Standing). is_in_time (as_plan x.plan) c.args.minute c.args.run x.state.running) c.self.view_is

pub returns-in-None : goal.returns-in-None
returns-in-None c =
    sym (in_time_none (as_plan c.self.inside.rules) c.args.minute c.args.run c.self.inside.running c.in-None.ensures) ∙ ap (λ (x : Standing). is_in_time (as_plan x.plan) c.args.minute c.args.run x.state.running) c.self.view_is
