use Rattle.std.proofs.Common.{◌≡◌, ◌++◌, drop, flat_map}
use Rattle.std.specs.List.{list_all}
use Rattle.cs_report.specs.ReadBack.{tells_event}
use Rattle.cs_report.specs.ScriptText.{event_line}
use Rattle.cs_report.proofs.writing.push_events.Given as goal

abbrev pub invariant-loop-event : goal.invariant-loop-event
invariant-loop-event l =
    (l.text.items ++ flat_map (event_line l.plan) (drop l.event-index l.events) ≡ l.fn.text.items ++ flat_map (event_line l.plan) l.events)
    × (list_all (tells_event l.plan) (drop l.event-index l.events) ≡ list_all (tells_event l.plan) l.events)
