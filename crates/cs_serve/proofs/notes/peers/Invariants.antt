use Rattle.std.proofs.Common.{◌≡◌}
use Rattle.std.specs.List.{flat_map}
use Rattle.cs_history.specs.Lists.{below}
use Rattle.cs_serve.specs.Notes.{peer}
use Rattle.cs_serve.proofs.notes.peers.Given as goal

abbrev pub invariant-loop-other : goal.invariant-loop-other
invariant-loop-other l = l.text.items ≡ flat_map (peer l.plan l.late) (below l.other)
