use Rattle.std.specs.List.{AllZip}
use Rattle.cs_history.specs.Lists.{below}
use Rattle.cs_serve.specs.Notes.{IsNote}
use Rattle.cs_serve.proofs.notes.notes_by.Given as goal

abbrev pub invariant-loop-number : goal.invariant-loop-number
invariant-loop-number l = AllZip (IsNote l.plan l.owners) (below l.number) l.notes.items
