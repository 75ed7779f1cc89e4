use Rattle.std.proofs.Common.{◌≡◌, ◌++◌, drop}
use Rattle.std.specs.List.{filter_map}
use Rattle.cs_next.specs.Next.{start_of}
use Rattle.cs_next.proofs.starts.add_starts.Given as goal

abbrev pub invariant-loop-window : goal.invariant-loop-window
invariant-loop-window l =
    l.starts.items ++ filter_map (start_of l.from l.day) (drop l.window-index l.windows)
    ≡ l.fn.starts.items ++ filter_map (start_of l.from l.day) l.windows
