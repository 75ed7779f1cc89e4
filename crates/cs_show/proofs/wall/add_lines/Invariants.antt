use Rattle.std.proofs.Common.{◌≡◌, ◌++◌, drop, flat_map}
use Rattle.cs_show.specs.WallAnswer.{line_text}
use Rattle.cs_show.proofs.wall.add_lines.Given as goal

-- the text so far and that of the lines that are left
abbrev pub invariant-loop-line : goal.invariant-loop-line
invariant-loop-line l = l.text.items ++ flat_map (line_text l.fn.question l.fn.clock) (drop l.line-index l.lines) ≡ l.initial.text.items ++ flat_map (line_text l.fn.question l.fn.clock) l.lines
