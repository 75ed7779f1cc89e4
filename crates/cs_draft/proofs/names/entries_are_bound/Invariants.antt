use Rattle.std.proofs.Common.{All, take}
use Rattle.cs_draft.specs.Draft.{IsBound}
use Rattle.cs_draft.proofs.names.entries_are_bound.Given as goal

abbrev pub invariant-loop-entry : goal.invariant-loop-entry
invariant-loop-entry l = All (λ e. IsBound l.lines e.name) (take l.entry-index l.entries)
