use Rattle.std.proofs.Common.{◌≡◌, ◌++◌, drop, filter}
use Rattle.cs_plan.specs.Plan.{as_plan}
use Rattle.cs_history.specs.Step.{refusal}
use Rattle.cs_history.specs.declared.event.Event.{Event}
use Rattle.cs_core.specs.Choices.{is_none}
use Rattle.cs_core.proofs.event_core.Core.choices.Given as goal

abbrev pub invariant-loop-event : goal.invariant-loop-event
invariant-loop-event l = l.events ++ filter (λ (e : Event). is_none (refusal (as_plan l.self.plan) l.self.state e)) (drop l.event-index l.event-items) ≡ filter (λ (e : Event). is_none (refusal (as_plan l.self.plan) l.self.state e)) l.event-items
