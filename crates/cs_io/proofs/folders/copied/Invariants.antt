use Rattle.std.proofs.Common.{◌≡◌, map, take}
use Rattle.cs_io.proofs.folders.copied.Given as goal

-- the names so far
abbrev pub invariant-loop-name : goal.invariant-loop-name
invariant-loop-name l = l.copies ≡ map (λ name. name.now) (take l.name-index l.names)
