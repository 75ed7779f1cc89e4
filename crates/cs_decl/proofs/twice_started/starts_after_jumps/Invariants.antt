use Rattle.cs_decl.proofs.Jumping.{AreSo}
use Rattle.cs_decl.proofs.twice_started.starts_after_jumps.Given as goal

-- those of the kinds so far
abbrev pub invariant-loop-kind : goal.invariant-loop-kind
invariant-loop-kind l = AreSo l.zone l.starts l.kind-iterator
