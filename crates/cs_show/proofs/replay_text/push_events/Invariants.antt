use Rattle.std.proofs.Common.{◌≡◌, ◌++◌, ◌||◌, length}
use Rattle.cs_plan.specs.Plan.{as_plan}
use Rattle.cs_show.specs.Replay.{event_lines, is_any_refused, last_state}
use Rattle.cs_show.proofs.replay_text.push_events.Given as goal

abbrev pub invariant-loop-rest : goal.invariant-loop-rest
invariant-loop-rest l = record {
  text : l.text.items ++ event_lines (as_plan l.fn.core.plan) l.core.state l.rest ≡ l.fn.text.items ++ event_lines (as_plan l.fn.core.plan) l.fn.core.state l.events;
  refused : (l.refused || is_any_refused (as_plan l.fn.core.plan) l.core.state l.rest) ≡ is_any_refused (as_plan l.fn.core.plan) l.fn.core.state l.events;
  state : last_state (as_plan l.fn.core.plan) l.core.state l.rest ≡ last_state (as_plan l.fn.core.plan) l.fn.core.state l.events;
  plan : l.core.plan ≡ l.fn.core.plan;
}

abbrev pub decreases-loop-rest : goal.decreases-loop-rest
decreases-loop-rest l = length l.rest
