use Rattle.std.proofs.Common.{◌≡◌, ◌++◌, drop}
use Rattle.std.specs.Prelude.{flat_map}
use Rattle.cs_next.specs.Text.{start_line}
use Rattle.cs_next.proofs.text.starts_text.Given as goal

abbrev pub invariant-loop-start : goal.invariant-loop-start
invariant-loop-start l =
    l.text.items ++ flat_map (start_line l.from l.tables) (drop l.start-index l.starts)
    ≡ flat_map (start_line l.from l.tables) l.starts
