use Rattle.std.proofs.Common.{◌≡◌, ◌++◌, map, take}
use Rattle.cs_gather.specs.Tables.{system_table}
use Rattle.cs_gather.proofs.given.push_system.Given as goal

abbrev pub invariant-loop-path : goal.invariant-loop-path
invariant-loop-path l = l.tables.items ≡ l.initial.tables.items ++ map system_table (map (λ path. path.now) (take l.path-index l.paths))
