use Rattle.std.proofs.Common.{◌≡◌, ◌++◌}
use Rattle.std.specs.List.{join_with_byte}
use Rattle.std.specs.Option.{option_map}
use Rattle.cs_crontab.specs.Command.{pieces_of}
use Rattle.cs_crontab.proofs.Pieces.{lines_behind, size_behind}
use Rattle.cs_crontab.proofs.command.lines.Given as goal

abbrev pub invariant-loop-behind : goal.invariant-loop-behind
invariant-loop-behind l = l.lines.items ++ lines_behind (option_map (λ r. r.now) l.behind) ≡ join_with_byte 10 (pieces_of l.text)

abbrev pub decreases-loop-behind : goal.decreases-loop-behind
decreases-loop-behind l = size_behind (option_map (λ r. r.now) l.behind)
