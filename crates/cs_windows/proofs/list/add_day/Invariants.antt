use Rattle.std.proofs.Common.{◌≡◌, ◌++◌, filter, map}
use Rattle.std.specs.Prelude.{flat_map}
use Rattle.std.specs.List.{range_with_len}
use Rattle.cs_windows.specs.Occupied.{job_of}
use Rattle.cs_windows.specs.Window.{reaches}
use Rattle.cs_windows.specs.Windows.{starting}
use Rattle.cs_windows.proofs.list.add_day.Given as goal

abbrev pub invariant-loop-first : goal.invariant-loop-first
invariant-loop-first l =
    l.windows.items ≡ l.fn.windows.items ++ filter reaches (flat_map (λ minute. starting l.fn.day l.day_back minute 0 (map job_of l.occupied)) (range_with_len 0 l.first-index))
