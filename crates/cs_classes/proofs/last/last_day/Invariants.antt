use Rattle.std.proofs.Common.{◌≡◌, ◌≤◌, ◌+◌, ◌-◌}
use Rattle.std.specs.Prelude.{find}
use Rattle.std.specs.List.{range_with_len}
use Rattle.cs_classes.specs.Said.{said}
use Rattle.cs_classes.proofs.Ending.{ends, first_from}
use Rattle.cs_classes.proofs.last.last_day.Given as goal

abbrev pub invariant-loop-last : goal.invariant-loop-last
invariant-loop-last l = (l.days ≤ l.last) × (find (ends (said l.claim) l.days l.classes) (range_with_len l.last (l.days + 10_227 - l.last)) ≡ first_from (ends (said l.claim) l.days l.classes) l.days)
