use Rattle.std.proofs.Common.{◌≡◌, ◌≤◌, filter, length}
use Rattle.std.specs.List.{range_with_len}
use Rattle.cs_zone.specs.Starts.{is_shown}
use Rattle.cs_zone.proofs.starts.count_shown.Given as goal

abbrev pub invariant-loop-step : goal.invariant-loop-step
invariant-loop-step l = (l.count ≤ l.step) × (l.count ≡ length (filter (is_shown l.schedule l.kind) (range_with_len l.first l.step)))
