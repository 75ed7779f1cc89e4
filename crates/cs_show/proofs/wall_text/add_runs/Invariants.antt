use Rattle.std.proofs.Common.{◌≡◌, ◌++◌, drop, flat_map}
use Rattle.cs_show.specs.WallText.{run_text}
use Rattle.cs_show.proofs.wall_text.add_runs.Given as goal

-- the text so far and that of the starts that are left
abbrev pub invariant-loop-start : goal.invariant-loop-start
invariant-loop-start l = l.text.items ++ flat_map (run_text l.fn.clock l.date l.max) (drop l.start-index l.starts) ≡ l.initial.text.items ++ flat_map (run_text l.fn.clock l.date l.max) l.starts
