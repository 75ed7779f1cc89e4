use Rattle.std.proofs.Common.{◌≡◌, drop}
use Rattle.cs_serve.specs.Failing.{called_at}
use Rattle.cs_serve.proofs.failing.called_at.Given as goal

abbrev pub invariant-loop-known : goal.invariant-loop-known
invariant-loop-known l = called_at (drop l.known-index l.failing) l.job ≡ called_at l.failing l.job
