use Rattle.std.proofs.Common.{◌≡◌, map, take}
use Rattle.cs_draft.proofs.parts.are_named.Given as goal

abbrev pub invariant-loop-i : goal.invariant-loop-i
invariant-loop-i l = map (λ p. p.name) (take l.i l.parts) ≡ take l.i l.names
