use Rattle.std.proofs.Common.{◌≡◌, ◌++◌, map, drop}
use Rattle.std.specs.List.{filter}
use Rattle.cs_decl.specs.Join.{is_left_out}
use Rattle.cs_decl.proofs.lookups.lines_left_out.Given as goal

abbrev pub invariant-loop-line : goal.invariant-loop-line
invariant-loop-line l = l.numbers ++ map (λ line. line.number) (filter (is_left_out l.entries) (drop l.line-index l.lines)) ≡ map (λ line. line.number) (filter (is_left_out l.entries) l.lines)
