use Rattle.std.proofs.Common.{◌≡◌, ◌+◌, ◌-◌, ◌/◌, ◌≤◌}
use Rattle.std.specs.Prelude.{flat_map}
use Rattle.std.specs.List.{range_with_len}
use Rattle.cs_next.specs.Next.{days_from, starts_of_day}
use Rattle.cs_next.proofs.starts.next_starts.Given as goal

abbrev pub invariant-loop-number : goal.invariant-loop-number
invariant-loop-number l =
    (l.from / 1440 ≤ l.number) × (l.number ≤ l.end) × (l.end ≡ l.from / 1440 + days_from l.from)
    × (l.starts.items ≡ flat_map (starts_of_day l.from l.lines l.jobs)
    (range_with_len (l.from / 1440) (l.number - l.from / 1440)))

abbrev pub decreases-loop-number : goal.decreases-loop-number
decreases-loop-number l = l.end - l.number
