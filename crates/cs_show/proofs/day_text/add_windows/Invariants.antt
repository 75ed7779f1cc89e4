use Rattle.std.proofs.Common.{◌≡◌, ◌++◌, drop, flat_map}
use Rattle.cs_show.specs.DayText.{window_text}
use Rattle.cs_show.proofs.day_text.add_windows.Given as goal

-- the text so far and that of the windows that are left
abbrev pub invariant-loop-window : goal.invariant-loop-window
invariant-loop-window l = l.text.items ++ flat_map window_text (drop l.window-index l.windows) ≡ l.initial.text.items ++ flat_map window_text l.windows
