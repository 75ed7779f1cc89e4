use Rattle.std.proofs.Common.{◌≡◌, ◌+◌, ◌-◌, ◌≤◌, ◌<◌, ℕ, Bool, List, slice_index}
use Rattle.cs_schedule.specs.Numbers.{has_bit}
use Rattle.cs_windows.specs.declared.window.Window.{Window}
use Rattle.cs_windows.specs.Links.{AreLinked, with_own}
use Rattle.cs_windows.proofs.links.link_block.Given as goal

abbrev pub invariant-loop-place : goal.invariant-loop-place
invariant-loop-place l =
    (l.place ≤ 32) × ((begins : ℕ → Bool) (minute : ℕ) (ws : List Window) → ((i : ℕ) → i < 32 → has_bit l.starts i ≡ begins (l.first.from + i))
    → AreLinked l.fn.links.items (slice_index l.fn.firsts minute) (with_own begins l.first l.first.from minute ws)
    → AreLinked l.links.items (slice_index l.firsts minute) (with_own begins l.first (l.first.from + l.place) minute ws))

abbrev pub decreases-loop-place : goal.decreases-loop-place
decreases-loop-place l = 32 - l.place
