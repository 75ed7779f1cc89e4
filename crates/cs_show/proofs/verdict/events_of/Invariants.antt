use Rattle.std.proofs.Common.{◌≡◌, ◌++◌, drop, map}
use Rattle.cs_show.proofs.verdict.events_of.Given as goal

abbrev pub invariant-loop-event : goal.invariant-loop-event
invariant-loop-event l = l.events ++ map (λ e. e.1) (drop l.event-index l.numbered) ≡ map (λ e. e.1) l.numbered
