use Rattle.std.proofs.Common.{◌≡◌, ◌||◌, ℕ, drop}
use Rattle.cs_chart.specs.Bars.{is_covered, is_held_on}
use Rattle.cs_chart.proofs.bar.add_windows.Given as goal

-- the minutes of the windows so far, and of those that are left
abbrev pub invariant-loop-window : goal.invariant-loop-window
invariant-loop-window l = (minute : ℕ)
    → (is_covered l.bars.items minute || is_held_on l.start (drop l.window-index l.windows) minute)
    ≡ (is_covered l.fn.bars.items minute || is_held_on l.start l.windows minute)
