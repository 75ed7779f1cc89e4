use Rattle.std.proofs.Common.{◌≡◌, ◌++◌, List, map, take}
use Rattle.std.specs.List.{AllZip}
use Rattle.cs_gather.specs.Tables.{Given, IsUserFile}
use Rattle.cs_gather.proofs.given.push_users.Given as goal

abbrev pub invariant-loop-path : goal.invariant-loop-path
invariant-loop-path l = (users : List Given) × (l.tables.items ≡ l.initial.tables.items ++ users)
    × AllZip IsUserFile (map (λ path. path.now) (take l.path-index l.paths)) users
