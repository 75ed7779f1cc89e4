use Rattle.std.proofs.Common.{◌≡◌, ◌≤◌, ◌++◌, List, length}
use Rattle.cs_windows.specs.declared.window.Window.{Window}
use Rattle.cs_windows.specs.Links.{AreLinked}
use Rattle.cs_windows.proofs.links.add_linked.Given as goal

abbrev pub invariant-loop-next : goal.invariant-loop-next
invariant-loop-next l =
    (l.next ≤ length l.links) × (rest : List Window) × AreLinked l.links l.next rest
    × ((ws : List Window) → AreLinked l.links l.fn.first ws → l.windows.items ++ rest ≡ l.fn.windows.items ++ ws)

abbrev pub decreases-loop-next : goal.decreases-loop-next
decreases-loop-next l = l.next
