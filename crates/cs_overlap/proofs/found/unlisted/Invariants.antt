use Rattle.std.proofs.Common.{◌≡◌, drop, not}
use Rattle.std.specs.Prelude.{find}
use Rattle.cs_windows.specs.Entries.{lists}
use Rattle.cs_overlap.proofs.found.unlisted.Given as goal

abbrev pub invariant-loop-window : goal.invariant-loop-window
invariant-loop-window l = find (λ w. not (lists l.entries w)) l.held ≡ find (λ w. not (lists l.entries w)) (drop l.window-index l.held)
