use Rattle.std.proofs.Common.{◌≡◌, flat_map}
use Rattle.std.specs.List.{range_with_len}
use Rattle.cs_show.specs.WallText.{starts_in}
use Rattle.cs_show.proofs.wall_text.starts_of.Given as goal

-- the starts so far
abbrev pub invariant-loop-step : goal.invariant-loop-step
invariant-loop-step l = l.starts.items ≡ flat_map (starts_in l.zone l.schedule l.day) (range_with_len l.first l.step)
